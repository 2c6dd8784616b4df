-- `board_close::inner::narrowed` meets its contract: each kind is answered by the call of `domain` that does it. Assumes nothing.
use Rattle.std.proofs.Common.{sym, ap, ◌∙◌}
use Rattle.closing.specs.Kinds.{kind_of}
use Rattle.board_close.specs.Close.{left}
use Rattle.closing.specs.declared.Kind.{Kind}
use Rattle.board_close.proofs.inner.narrowed.Goals as goal

pub returns-in-Remove : goal.returns-in-Remove
returns-in-Remove c =
    let a = c.args in
    c.without.ensures ∙ ap (λ (k : Kind). left (kind_of k) a.v.0 a.d) (sym c.in-Remove.is)

pub returns-in-Assign : goal.returns-in-Assign
returns-in-Assign c =
    let a = c.args in
    c.only.ensures ∙ ap (λ (k : Kind). left (kind_of k) a.v.0 a.d) (sym c.in-Assign.is)

pub returns-in-Below : goal.returns-in-Below
returns-in-Below c =
    let a = c.args in
    c.from.ensures ∙ ap (λ (k : Kind). left (kind_of k) a.v.0 a.d) (sym c.in-Below.is)

pub returns-in-Above : goal.returns-in-Above
returns-in-Above c =
    let a = c.args in
    c.upto.ensures ∙ ap (λ (k : Kind). left (kind_of k) a.v.0 a.d) (sym c.in-Above.is)

-- A batch is its closings made one by one, and does as the rules say; a board that isn't well formed comes back as it came.
use Rattle.std.specs.Prelude.{◌≡◌, refl, Bool, true, false, ◌||◌, List, [], ◌∷◌, map, ℕ, ◌+◌, ltb, Result}
use Rattle.std.specs.declared.result.Result.TheVariants.{Ok, Err}
use Rattle.rules.specs.declared.Refusal.{Refusal}
use Rattle.std.proofs.Common.{sym, ap, ◌∙◌, subst, arith}
use Rattle.rules.specs.Board as rules
use Rattle.rules.specs.declared.Refusal.TheVariants.{Broken}
use Rattle.closing.specs.declared.Closing.{Closing}
use Rattle.board.specs.Rows.{with_rows}
use Rattle.board.specs.Well.{well_board}
use Rattle.board.specs.View.{view}
use Rattle.board.specs.Obeys.{Whole, Obeys}
use Rattle.board.specs.declared.Board.{Board}
use Rattle.board.specs.declared.Closed.{Closed}
use Rattle.board.proofs.ViewLaws.{alike_same, alike_then}
use Rattle.batch.specs.Batch.{closed_by, closed_all, is_yes, more, yeses, batch_of, counted_of, closing_of}
use Rattle.batch.specs.Tallies.{Tally, untold, tally_of}
use Rattle.batch.specs.declared.Batched.{Batched}
use Rattle.batch.proofs.BoardLaws.{tells, shut, closed_is, shut-obeys, yeses-more, tally-board}

-- ---- one by one

abbrev pub counts : Board → ℕ → Batched
counts b n = record { board = b; answer = Ok n }

abbrev pub refused : Board → Batched
refused b = record { board = b; answer = Err Broken }

module _ (b : Board) where
  -- the board is the one that the last closing hands back, and the answer counts those that answered yes
  pub batch-all : well_board b ≡ true → (cs : List Closing) → batch_of b cs ≡ counts (closed_all cs b) (yeses cs b)
  unfolding batch_of
  batch-all w cs = rw w

  pub batch-refuses : well_board b ≡ false → (cs : List Closing) → batch_of b cs ≡ refused b
  unfolding batch_of
  batch-refuses w cs = rw w

-- what the code makes of the tally of a well-formed board's rows
pub tally-batch : (b : Board) → Whole b → well_board b ≡ true → (cs : List Closing) (t : Tally) → t ≡ tally_of b.count (untold b.rows) cs → counts (with_rows b t.rows (b.changed || ltb 0 t.yes)) t.yes ≡ batch_of b cs
tally-batch b whole w cs t e =
    let l = tally-board cs b whole w 0 in
    let n : (tally_of b.count (untold b.rows) cs).yes ≡ yeses cs b = l.1 ∙ add-zero (yeses cs b) in
    ap (λ (u : Tally). counts (with_rows b u.rows (b.changed || ltb 0 u.yes)) u.yes) e
    ∙ (λ i. counts (with_rows b (tally_of b.count (untold b.rows) cs).rows (b.changed || ltb 0 (n i))) (n i))
    ∙ (λ i. counts (sym l.0 i) (yeses cs b))
    ∙ sym (batch-all b w cs)
  where
    add-zero : (n : ℕ) → n + 0 ≡ n
    add-zero n = omega arith

-- one more in front: that closing, and then the batch of the others on the board that it hands back
abbrev pub one_more : Bool → Result ℕ Refusal → Result ℕ Refusal
one_more y (Ok n) = Ok (more y n)
one_more y (Err r) = Err r

abbrev pub then : Closed → List Closing → Batched
then r cs = record { board = (batch_of r.board cs).board; answer = one_more (is_yes r.answer) (batch_of r.board cs).answer }

pub batch-more : (b : Board) (c : Closing) (cs : List Closing) → Whole b → well_board b ≡ true → batch_of b (c ∷ cs) ≡ then (closed_by c b) cs
batch-more b c cs whole w =
    batch-all b w (c ∷ cs)
    ∙ (λ i. counts (after i) (count i))
    ∙ sym (ap (λ (r : Closed). then r cs) (closed_is c b w) ∙ ap (λ (r : Batched). record { board = r.board; answer = one_more (tells c b) r.answer }) (batch-all (shut c b) (shut-obeys c b w whole).well cs))
  where
    after : closed_all (c ∷ cs) b ≡ closed_all cs (shut c b)
    after = ap (λ (r : Closed). closed_all cs r.board) (closed_is c b w)

    count : yeses (c ∷ cs) b ≡ more (tells c b) (yeses cs (shut c b))
    count = yeses-more c b w cs

-- ---- as the rules say

said-one : (x y : Bool) → rules.said x ≡ rules.said y → x ≡ y
said-one x y e = cc

-- a number of yes answers that is the rules' own, on a board that does as they say
record Does (ks : List rules.Closing) (b c : Board) (n : ℕ) : Type 0 where
  obeys : Obeys (rules.batch ks) b c (rules.count n)
  same : n ≡ rules.yeses ks (view b)

does-all : (cs : List Closing) (b : Board) → Whole b → well_board b ≡ true → Does (map closing_of cs) b (closed_all cs b) (yeses cs b)
does-all [] b whole w = record { obeys = record { whole = whole; well = w; acts = refl; answers = refl; stays = λ m. alike_same b }; same = refl }
does-all (c ∷ cs) b whole w =
    let k = closing_of c in
    let ks = map closing_of cs in
    let o = shut-obeys c b w whole in
    let rest = does-all cs (shut c b) o.whole o.well in
    let after : closed_all (c ∷ cs) b ≡ closed_all cs (shut c b) = ap (λ (r : Closed). closed_all cs r.board) (closed_is c b w) in
    let tell : tells c b ≡ rules.tells k (view b).now = said-one (tells c b) (rules.tells k (view b).now) o.answers in
    let same : yeses (c ∷ cs) b ≡ rules.yeses (k ∷ ks) (view b) =
    yeses-more c b w cs ∙ (λ i. more (tell i) ((rest.same ∙ ap (rules.yeses ks) o.acts) i)) in
    record {
      obeys = subst (λ (x : Board). Obeys (rules.batch (k ∷ ks)) b x (rules.count (yeses (c ∷ cs) b))) (sym after) (record {
        whole = rest.obeys.whole;
        well = rest.obeys.well;
        acts = rest.obeys.acts ∙ ap (rules.shut_all ks) o.acts;
        answers = ap rules.count same;
        stays = λ m. alike_then b (shut c b) (closed_all cs (shut c b)) (o.stays m) (rest.obeys.stays m);
      });
      same = same;
    }

pub batch-obeys : (b : Board) (cs : List Closing) → Whole b → well_board b ≡ true → Obeys (rules.batch (map closing_of cs)) b (batch_of b cs).board (counted_of (batch_of b cs).answer)
batch-obeys b cs whole w =
    subst (λ (r : Batched). Obeys (rules.batch (map closing_of cs)) b r.board (counted_of r.answer)) (sym (batch-all b w cs)) (does-all cs b whole w).obeys

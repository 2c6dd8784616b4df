-- `saved::at` meets its contract: the two words that it reads are those of the definition. Assumes nothing.
use Rattle.std.specs.Prelude.{refl}
use Rattle.saved.specs.Saved.{saved_at}
use Rattle.saved.proofs.at.Goals as goal

pub returns : goal.returns
unfolding saved_at
returns c = refl

-- `saved::put` meets its contract: the two words that it writes are those of the definition. Assumes nothing.
use Rattle.std.specs.Prelude.{refl}
use Rattle.saved.specs.Saved.{put_at}
use Rattle.saved.proofs.put.Goals as goal

pub returns : goal.returns
unfolding put_at
returns c = refl

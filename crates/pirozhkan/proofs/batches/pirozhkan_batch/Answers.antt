-- `pirozhkan::batches::pirozhkan_batch` meets its contract, by the form of the batch. Assumes nothing.
use Rattle.std.proofs.Common.{sym}
use Rattle.batch_runs.proofs.RunLaws.{formed}
use Rattle.pirozhkan.proofs.batches.pirozhkan_batch.Goals as goal

pub gather-requires : goal.gather-requires
gather-requires c = formed _ _ _ (sym c.in-Ok.ensures)

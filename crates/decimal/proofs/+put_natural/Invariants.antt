-- `decimal::put_natural` recurses as the digits do, those of a tenth of n first, then the last. The measure is n.
use Rattle.decimal.proofs.+put_natural.Given as goal

abbrev pub decreases-put_natural : goal.decreases-put_natural
decreases-put_natural l = l.n

-- `renew::guard::guard` calls itself with fewer doubles left.
use lib.ListN.{length}
use Rattle.store.specs.Cells.{rest_of}
use Rattle.renew.specs.Walk.{chart_of}
use Rattle.renew.proofs.guard.+guard.Given as goal

abbrev pub decreases-guard : goal.decreases-guard
decreases-guard l = length (rest_of (chart_of l.w.now) l.w.now.parts l.c)

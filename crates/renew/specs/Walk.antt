-- A walk over the doubles of the flagged rows, as the chart that it reads.
-- Assumes nothing.
use Rattle.store.specs.Cells.{Chart, chart}
use Rattle.renew.specs.declared.walk.Walk.{Walk}

abbrev pub chart_of : Walk → Chart
chart_of w = chart w.flags.now w.shape.now w.s.starts.now w.s.tstarts.now w.s.ostarts.now

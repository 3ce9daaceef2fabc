-- Each row of the table of worked cases (specs/Cases.antt) comes out as worked by hand.
-- Assumes nothing.
use mathlib.Core.Path.{◌≡◌, refl}
use mathlib.Core.List.{map}
use lib.Ieee.{sub, mul, le, of_bits, of_int}
use Rattle.numbers.specs.Complex.{zero_number, sum, difference, real_times, squares}
use Rattle.numbers.specs.Lists.{tabulate}
use Rattle.lattice.specs.Stretched.{map_at, map_entry, map_list}
use Rattle.lattice.specs.Line.{finest_ends, joins_by, joins, skips, joined, coarser_ends}
use Rattle.lattice.specs.Levels.{target}
use Rattle.lattice.specs.Cases.{Case, joining, table}

pub all_cases : map (λ (c : Case). c.computed) table ≡ map (λ (c : Case). c.expected) table
unfolding joining table tabulate map_at map_entry map_list finest_ends joins_by joins skips joined coarser_ends target zero_number sum difference real_times squares sub mul le of_bits of_int
all_cases = refl

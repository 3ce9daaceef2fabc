-- `lattice::levels::target` meets its contract.
use Rattle.lattice.specs.Levels.{target}
use Rattle.lattice.proofs.LevelLaws.{power_shifted}
use Rattle.lattice.proofs.levels.target.Goals as goal

pub returns : goal.returns
unfolding target
returns c = rw (power_shifted c.args.level c.requires)

-- The lists that go through the code, as the store that they are.
-- Assumes nothing.
use Rattle.std.specs.Prelude.{◌≡◌}
use Rattle.store.specs.Store.{Store, lent}
use Rattle.store.specs.Renewed.{Fixed, fixed, Five, five}
use Rattle.store.specs.declared.lists.Lists.{Lists}
use Rattle.store.specs.declared.lists.Structure.{Structure}
use Rattle.store.specs.declared.lists.Numbers.{Numbers}

abbrev pub store_of : Lists → Store
store_of l =
    lent l.ends.now l.eps.now l.starts.now l.columns.now l.values.now l.tstarts.now l.tcolumns.now l.tvalues.now
    l.ostarts.now l.ocolumns.now l.ovalues.now l.scaling.now

-- what a change only reads, the ends apart
abbrev pub fixed_of : Structure → Fixed
fixed_of s = fixed s.starts.now s.columns.now s.tstarts.now s.tcolumns.now s.ostarts.now s.ocolumns.now

-- what it renews
abbrev pub five_of : Numbers → Five
five_of n = five n.eps.now n.values.now n.tvalues.now n.ovalues.now n.scaling.now

-- both
abbrev pub store_with : Structure → Numbers → Store
store_with s n =
    lent s.ends.now n.eps.now s.starts.now s.columns.now n.values.now s.tstarts.now s.tcolumns.now n.tvalues.now
    s.ostarts.now s.ocolumns.now n.ovalues.now n.scaling.now

-- each list is still the one that was lent
pub record SameLists (old new : Lists) : Type 0 where
  pub ends : new.ends.ghost_name ≡ old.ends.ghost_name
  pub eps : new.eps.ghost_name ≡ old.eps.ghost_name
  pub starts : new.starts.ghost_name ≡ old.starts.ghost_name
  pub columns : new.columns.ghost_name ≡ old.columns.ghost_name
  pub values : new.values.ghost_name ≡ old.values.ghost_name
  pub tstarts : new.tstarts.ghost_name ≡ old.tstarts.ghost_name
  pub tcolumns : new.tcolumns.ghost_name ≡ old.tcolumns.ghost_name
  pub tvalues : new.tvalues.ghost_name ≡ old.tvalues.ghost_name
  pub ostarts : new.ostarts.ghost_name ≡ old.ostarts.ghost_name
  pub ocolumns : new.ocolumns.ghost_name ≡ old.ocolumns.ghost_name
  pub ovalues : new.ovalues.ghost_name ≡ old.ovalues.ghost_name
  pub scaling : new.scaling.ghost_name ≡ old.scaling.ghost_name

pub record SameNumbers (old new : Numbers) : Type 0 where
  pub eps : new.eps.ghost_name ≡ old.eps.ghost_name
  pub values : new.values.ghost_name ≡ old.values.ghost_name
  pub tvalues : new.tvalues.ghost_name ≡ old.tvalues.ghost_name
  pub ovalues : new.ovalues.ghost_name ≡ old.ovalues.ghost_name
  pub scaling : new.scaling.ghost_name ≡ old.scaling.ghost_name

use Rattle.std.proofs.Common.{refl, arith}
use Rattle.store.specs.Lists.{five_of}
use Rattle.store.proofs.ChangeLaws.{edge_room, room_set, renewed_done, renewed_back}
use Rattle.store.proofs.LevelParts.{volumes_unflagged}
use Rattle.changes.proofs.change.renew.Goals as goal

pub get-old-requires : goal.get-old-requires
get-old-requires c = edge_room c.requires.five_room c.requires.edge_bound

pub renew_or_restore-requires-clause-five_room : goal.renew_or_restore-requires-clause-five_room
renew_or_restore-requires-clause-five_room c = room_set _ _ c.requires.five_room c.put.ensures

pub renew_or_restore-requires-clause-m_bound : goal.renew_or_restore-requires-clause-m_bound
renew_or_restore-requires-clause-m_bound c = c.raise_flags.ensures.long

pub renew_or_restore-requires-clause-no_volumes : goal.renew_or_restore-requires-clause-no_volumes
renew_or_restore-requires-clause-no_volumes c = volumes_unflagged _ _ _ _ _ c.raise_flags.ensures

pub returns-in-Err-clause-renewed : goal.returns-in-Err-clause-renewed
returns-in-Err-clause-renewed c = renewed_back _ _ (five_of c.args.n.now) c.args.h.now.l.limits c.requires.edge_bound c.raise_flags.ensures c.requires.five_room c.put.ensures c.in-Err.ensures.restored c.get-old.ensures c.put-in-Err.ensures (λ q. omega (arith, q))

pub returns-clause-renewed : goal.returns-clause-renewed
returns-clause-renewed c = renewed_done _ _ (five_of c.args.n.now) c.args.h.now.l.limits c.requires.edge_bound c.raise_flags.ensures c.requires.five_room c.put.ensures c.in_default.ensures.restored refl

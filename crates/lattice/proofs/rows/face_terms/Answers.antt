use Rattle.std.proofs.Common.{rules, sym, length-take, length-take-le, arith}
use Rattle.lattice.specs.Sound.{full}
use Rattle.lattice.specs.Rows.{face_term, face_terms}
use Rattle.lattice.proofs.RowLaws.{face_term_most, curl_e_held, terms_held}
use Rattle.lattice.proofs.rows.face_terms.Goals as goal

pub slice_bounds-cs-end : goal.slice_bounds-cs-end
slice_bounds-cs-end c = (curl_e_held _ _ c.curl_e-n.ensures).columns_room

pub slice_bounds-push_each-end : goal.slice_bounds-push_each-end
slice_bounds-push_each-end c = sym (length-take-le _ _ (curl_e_held _ _ c.curl_e-n.ensures).columns_room)

pub push_each-requires-clause-callable : goal.push_each-requires-clause-callable
push_each-requires-clause-callable c =
    let few = (curl_e_held _ _ c.curl_e-n.ensures).most in
    (face_term (full c.args.l.now) c.args.wh, 1, search rules, face_term_most _ _, λ m k cs xs b h. omega (arith, few, length-take c.curl_e-n.result c.curl_e-n.new.columns, c.requires.k_bound, b, h))

pub returns : goal.returns
unfolding face_terms
returns c = rw (← terms_held (curl_e_held _ _ c.curl_e-n.ensures)) (c.push_each.ensures _ (search rules))

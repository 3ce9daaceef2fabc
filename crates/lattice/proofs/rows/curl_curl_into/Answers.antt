use Rattle.std.proofs.Common.{rules, sym, ◌≤◌, length, take, length-take, length-take-le, arith}
use Rattle.lattice.specs.Sound.{full}
use Rattle.lattice.specs.Rows.{face_terms, curl_curl}
use Rattle.lattice.proofs.RowLaws.{low_curl_h, face_terms_most, curl_h_held, terms_held, below_held}
use Rattle.lattice.proofs.rows.curl_curl_into.Goals as goal

pub slice_bounds-cs-end : goal.slice_bounds-cs-end
slice_bounds-cs-end c = (curl_h_held _ _ c.curl_h-n.ensures).columns_room

pub slice_bounds-push_each-end : goal.slice_bounds-push_each-end
slice_bounds-push_each-end c = sym (length-take-le _ _ (curl_h_held _ _ c.curl_h-n.ensures).columns_room)

pub push_each-requires-clause-callable : goal.push_each-requires-clause-callable
push_each-requires-clause-callable c =
    let e = curl_h_held _ _ c.curl_h-n.ensures in
    let few : length (take c.curl_h-n.result c.curl_h-n.new.columns) ≤ 4 = omega (arith, e.most, length-take c.curl_h-n.result c.curl_h-n.new.columns) in
    let low = (below_held e (low_curl_h _ c.args.l.now.limits _ c.requires.r_bound)).low in
    (face_terms (full c.args.l.now), 4, search rules, face_terms_most _, search rules)

pub returns : goal.returns
unfolding curl_curl
returns c = rw (← terms_held (curl_h_held _ _ c.curl_h-n.ensures)) (c.push_each.ensures _ (search rules))

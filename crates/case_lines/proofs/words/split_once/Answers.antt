use Rattle.std.proofs.Common.{◌≡◌, ℕ, ◌+◌, ◌<◌, ◌==◌, None, length, take, drop, sym, ap, ◌∙◌, arith, rules}
use Rattle.std.proofs.lemmas.List.Sums.{position_or_len_is}
use Rattle.std.proofs.lemmas.List.{take_rest}
use Rattle.case_lines.proofs.words.split_once.Goals as goal

pub returns : goal.returns
returns c =
    let text = c.args.text.now in
    let found = position_or_len_is (λ (b : ℕ). b == c.args.at) text c.in_ok-k.k 0 (search rules) (search rules) (search rules) in
    let inside : c.in_ok-k.k < length text = search rules in
    (omega arith, ap (λ n. take n text) (sym found), take_rest text _ ∙ ap (λ n. drop (n + 1) text) (sym found))

pub returns-in_err-k : goal.returns-in_err-k
returns-in_err-k c =
    let text = c.args.text.now in
    let none : c.from_residual.result ≡ None = search rules in
    rw none (position_or_len_is (λ (b : ℕ). b == c.args.at) text (length text) 0 (omega arith) (search rules) (search rules))

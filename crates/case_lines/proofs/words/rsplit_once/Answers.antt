use Rattle.std.proofs.Common.{◌≡◌, ℕ, ◌+◌, ◌<◌, ◌==◌, None, length, take, drop, not, ap, ◌∙◌, arith, rules}
use Rattle.std.proofs.lemmas.List.Sums.{suffix_len_is}
use Rattle.std.proofs.lemmas.List.{take_rest}
use Rattle.case_lines.proofs.words.rsplit_once.Goals as goal

pub returns : goal.returns
returns c =
    let text = c.args.text.now in
    let n = c.in_ok-k.k + 1 in
    let inside : c.in_ok-k.k < length text = search rules in
    let found = suffix_len_is (λ (b : ℕ). not (b == c.args.at)) text n 0 (omega arith) (search rules) (search rules) in
    (omega arith, ap (λ m. take m text) (omega arith), take_rest text _ ∙ ap (λ m. drop m text) (omega arith))

pub returns-in_err-k : goal.returns-in_err-k
returns-in_err-k c =
    let text = c.args.text.now in
    let none : c.from_residual.result ≡ None = search rules in
    let all = suffix_len_is (λ (b : ℕ). not (b == c.args.at)) text 0 0 (omega arith) (search rules) (λ h. absurd (omega arith)) in
    rw none (omega arith)

-- A line read byte for byte.
use Rattle.std.proofs.Common.{◌≡◌, ◌≢◌, ◌<◌, ◌≤◌, ℕ, ◌+◌, List, [], ◌∷◌, ◌++◌, Option, None, Some, All, length, take, set, get_or, ap, sym, ◌∙◌, append_assoc, arith}
use Rattle.std.specs.Io.KnownBytes.{Consumes}
use Rattle.std.proofs.lemmas.List.{take_more_set}
use Rattle.std.proofs.lemmas.List.Elements.{All-append, All-cons, All-nil}
use Rattle.std.proofs.lemmas.Grind.{common_steps}

-- one read behind another
consumes-both : (o m n : Option (List ℕ)) (xs ys : List ℕ) → Consumes o m xs → Consumes m n ys → Consumes o n (xs ++ ys)
consumes-both None m n xs ys p q = tt
consumes-both (Some a) None n xs ys p q = absurd p
consumes-both (Some a) (Some b) None xs ys p q = absurd q
consumes-both (Some a) (Some b) (Some d) xs ys p q = p ∙ ap (λ l. xs ++ l) q ∙ sym (append_assoc xs ys d)

-- a read of at least one byte into room for one
one-read : (buf : List ℕ) (t : ℕ) → length buf ≡ 1 → t ≢ 0 → t ≤ length buf → take t buf ≡ get_or buf 0 0 ∷ []
one-read buf t one some within = grind (arith, common_steps)

-- a byte that is no newline goes behind those read before
pub byte-kept : (o m n : Option (List ℕ)) (room buf : List ℕ) (k t : ℕ) → k < length room → length buf ≡ 1 → t ≢ 0 → t ≤ length buf
    → get_or buf 0 0 ≢ 10
    → Consumes o m (take k room) × All (λ b. b ≢ 10) (take k room)
    → Consumes m n (take t buf)
    → Consumes o n (take (k + 1) (set room k (get_or buf 0 0))) × All (λ b. b ≢ 10) (take (k + 1) (set room k (get_or buf 0 0)))
byte-kept o m n room buf k t inside one some within plain before read =
    rw (take_more_set room k (get_or buf 0 0) inside) (
      consumes-both o m n _ _ before.0 (rw (one-read buf t one some within) at read),
      All-append (λ b. b ≢ 10) (take k room) _ before.1 (All-cons (λ b. b ≢ 10) _ [] plain (All-nil (λ b. b ≢ 10))),
    )

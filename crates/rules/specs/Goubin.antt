-- Section 4: the two-share steps of Goubin, on words of k bits. A record holds the value of each assignment, in order.
use Rattle.std.specs.Prelude.{ℕ, zero, suc, ◌-◌, List, [], ◌∷◌, ◌++◌, get_or}
use Rattle.std.specs.Int.Bits.{bit_xor, bit_and}
use Rattle.words.specs.Word.{Width, Word, minus, double}

-- Ψ(r) = (x' ⊕ r) − r
unfoldable pub psi : Width → Word → Word → Word
psi k x' r = minus k (bit_xor x' r) r

-- Boolean to arithmetic, from x' and r with the fresh word G: seven steps
unfoldable pub b2a_record : Width → Word → Word → Word → List Word
b2a_record k x' r G =
    let T₁ = bit_xor x' G in
    let T₂ = minus k T₁ G in
    let T₃ = bit_xor T₂ x' in
    let G₁ = bit_xor G r in
    let A₁ = bit_xor x' G₁ in
    let A₂ = minus k A₁ G₁ in
    let A₃ = bit_xor A₂ T₃ in
    T₁ ∷ T₂ ∷ T₃ ∷ G₁ ∷ A₁ ∷ A₂ ∷ A₃ ∷ []

-- Arithmetic to Boolean, from A and r with the fresh word G: the nine steps before the loop
unfoldable pub a2b_start : Width → Word → Word → Word → List Word
a2b_start k A r G =
    let T₁ = double k G in
    let X₁ = bit_xor G r in
    let O₁ = bit_and G X₁ in
    let X₂ = bit_xor T₁ A in
    let G₁ = bit_xor G X₂ in
    let G₂ = bit_and G₁ r in
    let O₂ = bit_xor O₁ G₂ in
    let G₃ = bit_and T₁ A in
    let O₃ = bit_xor O₂ G₃ in
    T₁ ∷ X₁ ∷ O₁ ∷ X₂ ∷ G₁ ∷ G₂ ∷ O₂ ∷ G₃ ∷ O₃ ∷ []

-- one turn of the loop, from O and T: five steps
unfoldable pub a2b_round : Width → Word → Word → Word → Word → List Word
a2b_round k A r O T =
    let G₁ = bit_and T r in
    let G₂ = bit_xor G₁ O in
    let T₁ = bit_and T A in
    let G₃ = bit_xor G₂ T₁ in
    let T₂ = double k G₃ in
    G₁ ∷ G₂ ∷ T₁ ∷ G₃ ∷ T₂ ∷ []

-- n turns, each from the T that the one before ended in, and the last step, X ⊕ T
unfoldable pub a2b_rounds : Width → Word → Word → Word → Word → ℕ → Word → List Word
a2b_rounds k A r O X zero T = bit_xor X T ∷ []
a2b_rounds k A r O X (suc n) T =
    let turn = a2b_round k A r O T in
    turn ++ a2b_rounds k A r O X n (get_or turn 4 0)

-- Arithmetic to Boolean: after the start, with its last O, its last X and its T, k − 1 turns
unfoldable pub a2b_record : Width → Word → Word → Word → List Word
a2b_record k A r G =
    let start = a2b_start k A r G in
    start ++ a2b_rounds k A r (get_or start 8 0) (get_or start 3 0) (k - 1) (get_or start 0 0)

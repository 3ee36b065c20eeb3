-- A key's words by place.
use Prim.Native.Nat.{ℕ, zero, suc, ◌+◌, ◌-◌, ◌*◌, ◌<◌}
use mathlib.Core.Path.{◌≡◌, refl, sym, ◌∙◌}
use mathlib.Core.List.{List, [], ◌∷◌, ◌++◌}
use native.Mathlib.Omega.{arith}
use native.Mathlib.Nat.{add-zero}
use lib.ListN.{length, get_or, drop, replicate}
use lib.Seq.{get_or-drop}
use Rattle.std.specs.Int.{w32, from_be_bytes}
use Rattle.rules.specs.Hash.{Hash, number_of, filled}
use Rattle.rules.specs.Standard.{SHA1}
use Rattle.rules.specs.Hmac.{key_words}
use Rattle.padding.proofs.Padded.{word_of}

abbrev H : Hash
H = SHA1 32

-- ---- words of a key, 0 past its end
module _ (key : List ℕ) (i : ℕ) where
  number_is : number_of 4 (drop (4 * i) key)
      ≡ ((get_or key (4 * i) 0 * 256 + get_or key (4 * i + 1) 0) * 256 + get_or key (4 * i + 2) 0) * 256
      + get_or key (4 * i + 3) 0
  unfolding number_of
  number_is =
      rw (
        get_or-drop (4 * i) key 0 0,
        get_or-drop (4 * i) key 1 0,
        get_or-drop (4 * i) key 2 0,
        get_or-drop (4 * i) key 3 0,
        add-zero (4 * i),
      )
      (omega arith)

  pub number_made : {a b c d r : ℕ} → a ≡ get_or key (4 * i) 0 → b ≡ get_or key (4 * i + 1) 0
      → c ≡ get_or key (4 * i + 2) 0 → d ≡ get_or key (4 * i + 3) 0 → r ≡ from_be_bytes w32 (a ∷ b ∷ c ∷ d ∷ [])
      → r ≡ number_of 4 (drop (4 * i) key)
  number_made ea eb ec ed er = omega (arith, number_is)

  pub word_is : (m : ℕ) → i < m → number_of 4 (drop (4 * i) key) ≡ get_or (key_words H m key) i 0
  word_is m h =
      let r = m * 4 - length key in
      number_is
      ∙ sym (word_of m (filled (m * 4) key) i h
      ∙ rw (
        filled_at key r (4 * i),
        filled_at key r (4 * i + 1),
        filled_at key r (4 * i + 2),
        filled_at key r (4 * i + 3),
      ))
    where
      filled_at : (key : List ℕ) (r i : ℕ) → get_or (key ++ replicate r 0) i 0 ≡ get_or key i 0
      filled_at [] zero i = refl
      filled_at [] (suc r) zero = refl
      filled_at [] (suc r) (suc i) = filled_at [] r i
      filled_at (v ∷ key) r zero = refl
      filled_at (v ∷ key) r (suc i) = filled_at key r i

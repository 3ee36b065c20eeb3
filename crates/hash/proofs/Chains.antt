-- What the hashes differ in; and chain records, of which the words in use are compressed.
use Prim.Native.Nat.{ℕ, ◌-◌, ◌*◌, ◌≤◌, ◌<◌}
use mathlib.Core.Path.{◌≡◌, sym, ap, ◌∙◌}
use mathlib.Core.List.{List, [], ◌++◌, append-nil}
use native.Mathlib.Nat.{sub-zero, mul-le-mul_left, mul-le-mul_right}
use native.Mathlib.Omega.{arith}
use mir.Syntax.{w64}
use mir.Val.{Fits}
use lib.ListN.{length, take, drop, replicate, length-append, length-drop, drop_of_length-le}
use lib.Seq.{length-take-le, take_at, drop_at}
use Rattle.rules.specs.declared.Algorithm.{Algorithm}
use Rattle.rules.specs.declared.Sha256Chain.{Sha256Chain}
use Rattle.rules.specs.Numbers.{largest}
use Rattle.rules.specs.Hash.{chain_words, filled}
use Rattle.rules.specs.Sha1.{publics}
use Rattle.rules.specs.Hmac.{chain_room, used, chain_of}
use Rattle.rules.specs.Calls.{compressed}
use Rattle.rules.specs.Stream.{state_room}
use Rattle.rules.proofs.Loops.{Run}
use Rattle.hash.specs.Hash.{hash, standard}
use Rattle.hash.proofs.Publics.{length_publics}

-- ---- chain_end
module _ (n m : ℕ) (few : m ≤ 8) (low : n ≤ largest) where
  pub end_most : m * n ≤ 8 * n
  end_most = mul-le-mul_right n few

  pub end_fits : Fits w64 (m * n)
  end_fits = record { fits = omega (arith, end_most) }

pub end_is : (code : Algorithm) (n m : ℕ) → m ≡ chain_words (standard code) → m * n ≡ chain_words (standard code) * n
end_is code n m e = rw e

-- ---- the words in use of a chain, up to the place `end`
module _ (code : Algorithm) (n end : ℕ) (is : end ≡ chain_words (standard code) * n) where
  -- those of a chain that starts
  pub start_made : (all z : List ℕ) → 0 < n → z ≡ publics n (standard code).start
      → used (standard code) n (z ++ drop (end - 0) all) ≡ publics n (standard code).start
  unfolding used
  start_made all z some e =
      rw e (take_at (publics n (standard code).start) _ (chain_words (standard code) * n)
      (length_publics n (standard code).start some))

  module _ (all : List ℕ) where
    pub lent : take (end - 0) all ≡ used (standard code) n all
    unfolding used
    lent = rw (sub-zero end, is)

    new_front : (z : List ℕ) → length z ≡ chain_words (standard code) * n
        → used (standard code) n (z ++ drop (end - 0) all) ≡ z
    unfolding used
    new_front z size = take_at z (drop (end - 0) all) (chain_words (standard code) * n) size

    -- they are compressed, and the new ones stand in their place
    pub record_made : (z block ws : List ℕ) (at p : ℕ) → length z ≡ chain_words (standard code) * n
        → (hash code).compress n (take (end - 0) all) block ws at ≡ (z, p)
        → (hash code).compress n (used (standard code) n all) block ws at
        ≡ (used (standard code) n (z ++ drop (end - 0) all), p)
    record_made z block ws at p size e = rw (← lent) (e ∙ ap (λ (y : List ℕ). (y, p)) (sym (new_front z size)))

    pub lent_size : end ≤ length all → length (take (end - 0) all) ≡ chain_words (standard code) * n
    lent_size room = rw (sub-zero end) (length-take-le end all room) ∙ is

    -- zeros behind them
    behind_them : take end all ≡ used (standard code) n all
    behind_them = rw (sub-zero end) at lent

    in_use_lem : end ≤ length all → length (used (standard code) n all) ≡ end
    in_use_lem room = ap length (sym behind_them) ∙ length-take-le end all room

    -- a record lent, its words in use compressed
    pub record_room : n ≤ largest → length all ≡ chain_room (standard code) → end ≤ length all
    record_room low full = rw (is, full) (mul-le-mul_left (chain_words (standard code)) low)

    module _ (low : n ≤ largest) (full : length all ≡ chain_room (standard code)) (C : List ℕ)
        (cleared : C ≡ take end all ++ replicate (length all - end) 0) where
      pub record_end : end ≤ length C
      record_end =
          rw (cleared, length-append (take end all) (replicate (length all - end) 0))
          (rw (length-take-le end all (record_room low full)) (omega arith))

      pub record_lent : length (take (end - 0) C) ≡ chain_words (standard code) * n
      record_lent = rw (sub-zero end) (length-take-le end C record_end) ∙ is

      pub record_compressed : (block z ws : List ℕ) (at p : ℕ)
          → (hash code).compress n (take (end - 0) C) block ws at ≡ (z, p)
          → compressed (hash code) n all block ws at ≡ (z ++ drop (end - 0) C, p)
      unfolding chain_of
      record_compressed block z ws at p e =
          let f = used (standard code) n all in
          let o : List ℕ = replicate (length all - end) 0 in
          let size = in_use_lem (record_room low full) in
          let two : C ≡ f ++ o = cleared ∙ ap (λ (y : List ℕ). y ++ o) behind_them in
          let front : take (end - 0) C ≡ f = rw (sub-zero end, two) (take_at f o end size) in
          let back : drop (end - 0) C ≡ o = rw (sub-zero end, two) (drop_at f o end size) in
          let made : (hash code).compress n f block ws at ≡ (z, p) = rw front at e in
          rw (back, made, full, is)

  pub cleared_made : (all C : List ℕ) → length all ≡ 128 → end ≤ 8 * n → n ≤ largest
      → C ≡ take end all ++ replicate (length all - end) 0
      → ◌≡◌ {A = Sha256Chain} (record { shares = C })
      (record { shares = filled state_room (used (standard code) n all) })
  cleared_made all C whole most low e =
      rw (e, behind_them all, in_use_lem all (omega arith), whole)

-- ---- clear_rest
pub rest_made : (end : ℕ) (all rest : List ℕ) → end ≤ length all
    → rest ≡ replicate (length (take (length all - end) (drop end all))) 0
    → take end all ++ (rest ++ drop (length all - end) (drop end all)) ≡ take end all ++ replicate (length all - end) 0
rest_made end all rest h e =
    let behind = drop end all in
    let m = length all - end in
    let size : length behind ≡ m = length-drop end all in
    let none : drop m behind ≡ [] = drop_of_length-le behind {i = m} (omega arith) in
    rw (none, append-nil rest, e, length-take-le m behind (omega arith))

-- an array that is handed over has all its words
pub array_end : (n end : ℕ) (all : List ℕ) → length all ≡ 128 → end ≤ 8 * n → n ≤ largest
    → end ≤ length all
array_end n end all whole h low = omega arith

-- ---- compress_record: a copy of the block
pub record_copied : (code : Algorithm) (n : ℕ) (all block u ws : List ℕ) (at : ℕ) (o : Run) → u ≡ block
    → compressed (hash code) n all u ws at ≡ o → compressed (hash code) n all block ws at ≡ o
record_copied code n all block u ws at o e f = rw e at f

-- Tags opened word by word, as the code's loop walks them: the words done, and those left.
use Prim.Native.Nat.{ℕ, suc, ◌+◌, ◌-◌, ◌*◌, ◌≤◌, ◌<◌}
use mathlib.Core.Path.{◌≡◌, sym, ap, ◌∙◌}
use mathlib.Core.List.{List, [], ◌++◌, append-nil, append_assoc}
use native.Mathlib.Omega.{arith}
use native.Mathlib.Nat.{add-mul}
use lib.ListN.{length, take, drop}
use lib.Seq.{take_all, drop-drop}
use Rattle.rules.specs.declared.Algorithm.{Algorithm}
use Rattle.rules.specs.Refusals.{code_of, algorithm_of}
use Rattle.rules.specs.Numbers.{largest}
use Rattle.rules.specs.Supply.{opened}
use Rattle.rules.specs.Hash.{Hash, chain_words, digest_bytes, bytes_of, all_bytes}
use Rattle.rules.specs.Sha1.{word, open_words}
use Rattle.rules.specs.Hmac.{used, tag_of}
use Rattle.rules.specs.Counts.{standard_of}
use Rattle.rules.proofs.Codes.{standard_by}
use Rattle.hash.specs.Hash.{standard}
use Rattle.hash.proofs.Chains.{lent, lent_size, array_end}

-- of m words w done, the rest still in shares
module _ (n m : ℕ) (s : List ℕ) where
  abbrev pub Opening : ℕ → List ℕ → List ℕ
  Opening w tag = take (4 * w) tag ++ all_bytes 4 (open_words n (m - w) (drop (w * n) s))

  pub tag_next : (tag tag1 x done : List ℕ) (w v : ℕ) → w < m → x ≡ word n w s → v ≡ opened x
      → take (4 * w + 4) tag1 ≡ take (4 * w) tag ++ bytes_of 4 v → Opening w tag ≡ done → Opening (w + 1) tag1 ≡ done
  unfolding open_words all_bytes word
  tag_next tag tag1 x done w v h e f g p =
      let left : m - w ≡ suc (m - (w + 1)) = omega arith in
      let i : 4 * (w + 1) ≡ 4 * w + 4 = omega arith in
      let k : (w + 1) * n ≡ w * n + n = omega (arith, add-mul w 1 n) in
      let rest = all_bytes 4 (open_words n (m - (w + 1)) (drop n (drop (w * n) s))) in
      rw (i, k, g, ← drop-drop n (w * n) s, f, e)
      (append_assoc (take (4 * w) tag) (bytes_of 4 (opened (take n (drop (w * n) s)))) rest ∙ (rw left at p))

  pub tag_end : (tag done : List ℕ) (w : ℕ) → m ≤ w → length tag ≡ m * 4 → Opening w tag ≡ done → tag ≡ done
  unfolding open_words all_bytes
  tag_end tag done w h l p =
      let none : m - w ≡ 0 = omega arith in
      sym (append-nil tag) ∙ ap (λ (t : List ℕ). t ++ []) (sym (take_all (4 * w) tag (omega arith))) ∙ (rw none at p)

-- the used words of a chain, lent and opened, by the hash of a code
module _ (code : ℕ) (algorithm : Algorithm) (n m end : ℕ) (words : m ≡ chain_words (standard algorithm)) where
  pub lent_words : (chain : List ℕ) → length chain ≡ 128 → end ≡ chain_words (standard algorithm) * n
      → end ≤ 8 * n → n ≤ largest → length (take (end - 0) chain) ≡ m * n
  lent_words chain whole is most low =
      rw words (lent_size algorithm n end is chain (array_end n end chain whole most low))

  pub tag_size_lem : (l : ℕ) → algorithm ≡ algorithm_of code → l ≡ digest_bytes (standard_of 32 code) → l ≡ m * 4
  tag_size_lem l known e = rw words (e ∙ ap digest_bytes (standard_by 32 code algorithm known))

  pub tag_opened : (chain tag : List ℕ) → algorithm ≡ algorithm_of code → end ≡ chain_words (standard algorithm) * n
      → tag ≡ all_bytes 4 (open_words n m (take (end - 0) chain)) → tag ≡ tag_of (standard_of 32 code) n
      (used (standard_of 32 code) n chain)
  tag_opened chain tag known is e =
      e ∙ (rw (words, lent algorithm n end is chain))
      ∙ ap (λ (H : Hash). tag_of H n (used H n chain)) (sym (standard_by 32 code algorithm known))

-- a tag's bytes, by a number that is the hash's code
pub tag_known : (algorithm : Algorithm) (number n : ℕ) (s tag : List ℕ) → number ≡ code_of algorithm
    → tag ≡ tag_of (standard_of 32 number) n (used (standard_of 32 number) n s)
    → tag ≡ tag_of (standard algorithm) n (used (standard algorithm) n s)
tag_known algorithm number n s tag is e = rw is at e

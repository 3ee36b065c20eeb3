-- The short conversion keeps the secret. Ψ is affine, so b opens to what is left of the secret when the other list is
-- taken away; and both lists go on as shares do.
use Prim.Native.Nat.{ℕ, zero, suc, ◌+◌, ◌-◌, ◌*◌, ◌%◌, ◌^◌, ◌≤◌, ◌<◌}
use mathlib.Core.Path.{◌≡◌, refl, sym, ap, ◌∙◌}
use mathlib.Core.Bool.{Bool, true, false}
use mathlib.Core.List.{List, [], ◌∷◌, ◌++◌, map}
use native.Mathlib.Nat.{add_comm, add-mod, mod-add-mod, add-mod-mod, add-mod_right, mod-eq_of_lt, sub-zero, pow-suc}
use native.Mathlib.Omega.{arith}
use lib.Bits.{bit_xor, xor_lt, xor_zero_r}
use lib.Dec.{eqb}
use lib.ListN.{length, get_or, set, take, drop, length-set, length-append, length-drop, length-map, take-append-drop}
use lib.Pow.{pow_pos}
use lib.Seq.{length-take-le, get_or-set_other}
use borrow.Author.Tests.{eqb-true, eqb-false}
use Rattle.words.specs.Word.{plus, minus}
use Rattle.words.proofs.Bits.{bits, v, ◌⊕◌}
use Rattle.words.proofs.Words.{minus_lt, plus_minus}
use Rattle.rules.specs.Supply.{Place, Rule, Words, opened, total, opened_sum}
use Rattle.rules.specs.Numbers.{choose}
use Rattle.rules.specs.Goubin.{psi}
use Rattle.rules.specs.Shares.{each, pass, column, mix, refresh_last}
use Rattle.rules.specs.Short.{psis, joined, summed, shorter, short_of, to_arith_short}
use Rattle.rules.specs.Counts.{short_draws}
use Rattle.rules.proofs.Affine.{psi_affine}
use Rattle.rules.proofs.Rule.{give, bind, counted}
use Rattle.rules.proofs.Openings.{opened_append, opened_set, opened_drop, opened_past, opened_lt, total_append}
use Rattle.rules.proofs.Openings.{total_drop, total_past, length_each}
use Rattle.rules.proofs.Bytes.{words_join, words_zeros}
use Rattle.rules.proofs.Conversion.{words_take, words_drop, one_adds}
use Rattle.rules.proofs.Pairs.{refresh_last_rule}

-- ---- b opens to the Ψ of what the later shares open to
module _ (k x : ℕ) (hx : x < 2 ^ k) where
  psi_none : psi k x 0 ≡ x
  unfolding psi minus
  psi_none = rw (xor_zero_r x, sub-zero (2 ^ k)) (add-mod_right x (2 ^ k) ∙ mod-eq_of_lt hx)

  -- of an odd number; of an even number with x too
  psi_all : (r : List ℕ) → Words k r
      → (length r % 2 ≡ 1 → opened (map (psi k x) r) ≡ psi k x (opened r))
      × (length r % 2 ≡ 0 → bit_xor x (opened (map (psi k x) r)) ≡ psi k x (opened r))
  unfolding opened
  psi_all [] w = (λ h. absurd (omega arith), λ h. xor_zero_r x ∙ sym psi_none)
  psi_all (a ∷ r) w =
      let rest = psi_all r (λ i. w (suc i)) in
      let p = psi k x a in
      let s = opened (map (psi k x) r) in
      let sum = psi_affine k x a (opened r) hx (w 0) (opened_lt k r (λ i. w (suc i))) in (
        λ h. sym (sum ∙ rw (← rest.1 (omega arith)) (bits (x ∷ p ∷ s ∷ []) (v 1 ⊕ (v 0 ⊕ v 2) ⊕ v 0) (v 1 ⊕ v 2) tt)),
        λ h. sym (sum ∙ rw (← rest.0 (omega arith)) (bits (x ∷ p ∷ s ∷ []) (v 1 ⊕ v 2 ⊕ v 0) (v 0 ⊕ (v 1 ⊕ v 2)) tt)),
      )

module _ (k : ℕ) (a : List ℕ) (more : 1 < length a) (w : Words k a) where
  abbrev first : ℕ
  first = get_or a 0 0

  abbrev b : List ℕ
  b = map (psi k first) (drop 1 a)

  psis_opens : opened (psis k a) ≡ psi k first (opened (drop 1 a))
  unfolding psis
  psis_opens = go (eqb (length b % 2) 0) refl
    where
      all : (length (drop 1 a) % 2 ≡ 1 → opened b ≡ psi k first (opened (drop 1 a)))
          × (length (drop 1 a) % 2 ≡ 0 → bit_xor first (opened b) ≡ psi k first (opened (drop 1 a)))
      all = psi_all k first (w 0) (drop 1 a) (words_drop k 1 a w)

      size : length b ≡ length (drop 1 a)
      size = length-map (drop 1 a) (psi k first)

      go : (even : Bool) → eqb (length b % 2) 0 ≡ even
          → opened (choose even (set b 0 (bit_xor (get_or b 0 0) first)) b) ≡ psi k first (opened (drop 1 a))
      go true e =
          opened_set b 0 first (omega (arith, size, length-drop 1 a))
          ∙ all.1 (omega (arith, size, eqb-true (length b % 2) 0 e))
      go false e = let odd = eqb-false (length b % 2) 0 e in all.0 (omega (arith, size, odd))

-- ---- a joined list opens to the same
joined_opens : (l : List ℕ) → 1 < length l → opened (joined l) ≡ opened l
unfolding joined
joined_opens l h =
    let last = length l - 1 in
    let s = get_or l last 0 in
    let y = set l (last - 1) (bit_xor (get_or l (last - 1) 0) s) in
    let size = length-set l (last - 1) (bit_xor (get_or l (last - 1) 0) s) in
    let end : opened (drop last y) ≡ s =
    opened_drop y last (omega arith)
    ∙ rw (opened_past y (last + 1) (omega arith), xor_zero_r (get_or y last 0))
    (get_or-set_other l (last - 1) last _ 0 (λ e. omega arith)) in
    let whole : bit_xor (opened (take last y)) s ≡ bit_xor s (opened l) =
    ap (bit_xor (opened (take last y))) (sym end)
    ∙ sym (opened_append (take last y) (drop last y))
    ∙ ap opened (take-append-drop last y)
    ∙ opened_set l (last - 1) s (omega arith) in
    bits (opened (take last y) ∷ s ∷ []) (v 0) (v 0 ⊕ v 1 ⊕ v 1) tt
    ∙ ap (λ t. bit_xor t s) whole
    ∙ bits (opened l ∷ s ∷ []) (v 1 ⊕ v 0 ⊕ v 1) (v 0) tt

-- ---- a sum of lists adds up to what both add up to
module _ (k : ℕ) where
  each_sums : (x y : List ℕ) → length y ≡ length x → opened_sum k (each (plus k) x y) ≡ (total x + total y) % 2 ^ k
  unfolding each total plus
  each_sums [] [] h = refl
  each_sums [] (b ∷ y) h = absurd (omega arith)
  each_sums (a ∷ x) [] h = absurd (omega arith)
  each_sums (a ∷ x) (b ∷ y) h =
      let t = total (each (plus k) x y) in
      let order : a + b + (total x + total y) ≡ a + total x + (b + total y) = omega arith in
      mod-add-mod (a + b) (2 ^ k) t
      ∙ sym (add-mod-mod (a + b) t (2 ^ k))
      ∙ ap (λ n. (a + b + n) % 2 ^ k) (each_sums x y (omega arith))
      ∙ add-mod-mod (a + b) (total x + total y) (2 ^ k)
      ∙ ap (λ n. n % 2 ^ k) order

  -- all but the last, and the last
  total_last : (p : List ℕ) (last : ℕ) → length p ≡ suc last → total p ≡ total (take last p) + get_or p last 0
  total_last p last h =
      sym (ap total (take-append-drop last p))
      ∙ total_append (take last p) (drop last p)
      ∙ omega (arith, total_drop p last (omega arith), total_past p (last + 1) (omega arith))

  summed_sums : (m : ℕ) (p q : List ℕ) → length p ≡ suc m → length q ≡ suc m
      → opened_sum k (summed k p q) ≡ (total p + total q) % 2 ^ k
  unfolding summed total
  summed_sums m p q hp hq =
      let last = length p - 1 in
      let x = take last p in
      let y = take last q in
      let lx = length-take-le last p (omega arith) in
      let ly = length-take-le last q (omega arith) in
      let ends = get_or p last 0 + (get_or q last 0 + 0) in
      let both : total x + total y + ends ≡ total p + total q =
      omega (arith, total_last p last (omega arith), total_last q last (omega arith)) in
      ap (λ n. n % 2 ^ k) (total_append (each (plus k) x y) _)
      ∙ sym (mod-add-mod (total (each (plus k) x y)) (2 ^ k) ends)
      ∙ ap (λ n. (n + ends) % 2 ^ k) (each_sums x y (ly ∙ sym lx))
      ∙ mod-add-mod (total x + total y) (2 ^ k) ends
      ∙ ap (λ n. n % 2 ^ k) both

-- ---- lengths
chosen : {A : Type 0} (P : A → Type 0) (b : Bool) (x y : A) → P x → P y → P (choose b x y)
chosen P true x y p q = p
chosen P false x y p q = q

pub length_psis : (k : ℕ) (a : List ℕ) → length (psis k a) ≡ length a - 1
unfolding psis
length_psis k a =
    let b = map (psi k (get_or a 0 0)) (drop 1 a) in
    let size : length b ≡ length a - 1 = length-map (drop 1 a) (psi k (get_or a 0 0)) ∙ length-drop 1 a in
    chosen (λ (l : List ℕ). length l ≡ length a - 1) (eqb (length b % 2) 0) _ b (length-set b 0 _ ∙ size) size

pub length_joined : (l : List ℕ) → length (joined l) ≡ length l - 1
unfolding joined
length_joined l =
    let last = length l - 1 in
    length-take-le last _ (omega (arith, length-set l (last - 1) (bit_xor (get_or l (last - 1) 0) (get_or l last 0))))

length_summed : (k m : ℕ) (p q : List ℕ) → length p ≡ suc m → length q ≡ suc m → length (summed k p q) ≡ suc (suc m)
unfolding summed
length_summed k m p q hp hq =
    let last = length p - 1 in
    let lp = length-take-le last p (omega arith) in
    let lq = length-take-le last q (omega arith) in
    length-append (each (plus k) (take last p) (take last q)) _
    ∙ omega (arith, length_each (plus k) (take last p) (take last q) (lq ∙ sym lp))

-- ---- what it draws, and how many shares it makes
pub short_rule : (k n : ℕ) (x : List ℕ) → length x ≡ n → Rule (short_draws n) (λ z. length z ≡ n) (short_of k n x)
unfolding short_of shorter short_draws
short_rule k zero x h = give (λ z. length z ≡ 0) x h
short_rule k (suc zero) x h = give (λ z. length z ≡ 1) x h
short_rule k (suc (suc m)) x h =
    counted
    (bind (refresh_last_rule (m + 3) (x ++ (0 ∷ [])) (length-append x (0 ∷ []) ∙ omega arith)) (λ a ia.
    bind (refresh_last_rule (m + 2) (drop 1 a) (length-drop 1 a ∙ omega arith)) (λ c ic.
    bind (refresh_last_rule (m + 2) (psis k a) (length_psis k a ∙ omega arith)) (λ b ib.
    bind (short_rule k (suc m) (joined c) (length_joined c ∙ omega arith)) (λ p ip.
    bind (short_rule k (suc m) (joined b) (length_joined b ∙ omega arith)) (λ q iq.
    give (λ z. length z ≡ suc (suc m)) (summed k p q) (length_summed k m p q ip iq)))))))
    (omega arith)

-- one share stays, and more go by the rule for one less
pub short_of_one : (k n : ℕ) (x ws : List ℕ) (at : ℕ) → n ≤ 1 → short_of k n x ws at ≡ (x, at)
unfolding short_of
short_of_one k zero x ws at h = refl
short_of_one k (suc zero) x ws at h = refl
short_of_one k (suc (suc m)) x ws at h = absurd (omega arith)

pub short_of_more : (k n : ℕ) (x ws : List ℕ) (at : ℕ) → 1 < n
    → short_of k n x ws at ≡ shorter k (short_of k (n - 1)) x ws at
unfolding short_of
short_of_more k zero x ws at h = absurd (omega arith)
short_of_more k (suc zero) x ws at h = absurd (omega arith)
short_of_more k (suc (suc m)) x ws at h = let e : suc (suc m) - 1 ≡ suc m = omega arith in rw e

-- ---- every entry stays a word of k bits
module _ (k : ℕ) where
  words_set : (z : List ℕ) (i a : ℕ) → Words k z → a < 2 ^ k → Words k (set z i a)
  words_set [] i a w h j = pow_pos k
  words_set (x ∷ z) zero a w h zero = h
  words_set (x ∷ z) zero a w h (suc j) = w (suc j)
  words_set (x ∷ z) (suc i) a w h zero = w 0
  words_set (x ∷ z) (suc i) a w h (suc j) = words_set z i a (λ t. w (suc t)) h j

  words_map : (f : ℕ → ℕ) → ((a : ℕ) → f a < 2 ^ k) → (x : List ℕ) → Words k (map f x)
  words_map f h [] i = pow_pos k
  words_map f h (a ∷ x) zero = h a
  words_map f h (a ∷ x) (suc i) = words_map f h x i

  module _ (ws : List ℕ) (hw : Words k ws) where
    words_mixed : (ps : List (Place × Place)) (z : List ℕ) (at : ℕ) → Words k z → Words k (pass mix ps z ws at).0
    unfolding pass
    words_mixed [] z at w = w
    words_mixed (p ∷ ps) z at w =
        let s = get_or ws at 0 in
        let y = set z p.0 (bit_xor (get_or z p.0 0) s) in
        let wy = words_set z p.0 _ w (xor_lt k (get_or z p.0 0) s (w p.0) (hw at)) in
        words_mixed ps _ (at + 1) (words_set y p.1 _ wy (xor_lt k (get_or y p.1 0) s (wy p.1) (hw at)))

    words_refreshed : (x : List ℕ) (at : ℕ) → Words k x → Words k (refresh_last x ws at).0
    unfolding refresh_last
    words_refreshed x at = words_mixed (column (length x - 1) (length x - 1) 0) x at

  words_psis : (a : List ℕ) → Words k a → Words k (psis k a)
  unfolding psis psi
  words_psis a w =
      let b = map (psi k (get_or a 0 0)) (drop 1 a) in
      let wb = words_map (psi k (get_or a 0 0)) (λ r. minus_lt k (bit_xor (get_or a 0 0) r) r) (drop 1 a) in
      chosen (Words k) (eqb (length b % 2) 0) _ b
      (words_set b 0 _ wb (xor_lt k (get_or b 0 0) (get_or a 0 0) (wb 0) (w 0))) wb

  words_joined : (l : List ℕ) → Words k l → Words k (joined l)
  unfolding joined
  words_joined l w =
      let last = length l - 1 in
      let both = xor_lt k (get_or l (last - 1) 0) (get_or l last 0) (w (last - 1)) (w last) in
      words_take k last _ (words_set l (last - 1) _ w both)

-- ---- the two lists of a step: y, and what is left of the secret without it
two_parts : (k f y s t : ℕ) → f < 2 ^ k → y < 2 ^ k → s % 2 ^ k ≡ y → t % 2 ^ k ≡ psi k f y
    → (s + t) % 2 ^ k ≡ bit_xor f y
unfolding psi plus
two_parts k f y s t hf hy p q =
    add-mod s t (2 ^ k)
    ∙ rw (p, q)
    (ap (λ n. n % 2 ^ k) (add_comm y (minus k (bit_xor f y) y)) ∙ plus_minus k (bit_xor f y) y (xor_lt k f y hf hy) hy)

-- ---- it adds up to the secret, whatever words of k bits it draws
module _ (k : ℕ) (ws : List ℕ) (hw : Words k ws) where
  short_adds : (n : ℕ) (x : List ℕ) (at : ℕ) → length x ≡ n → Words k x
      → opened_sum k (short_of k n x ws at).0 ≡ opened x
  unfolding short_of shorter opened
  short_adds zero x at h w = one_adds k x (omega arith) w
  short_adds (suc zero) x at h w = one_adds k x (omega arith) w
  short_adds (suc (suc m)) x at h w =
      let x₀ = x ++ (0 ∷ []) in
      let size : length x₀ ≡ m + 3 = length-append x (0 ∷ []) ∙ omega arith in
      let a = refresh_last x₀ ws at in
      let ia = (refresh_last_rule (m + 3) x₀ size).makes ws at in
      let wa = words_refreshed k ws hw x₀ at (words_join k x (0 ∷ []) w (words_zeros k 1)) in
      let f = get_or a.0 0 0 in
      let r = drop 1 a.0 in
      let wr = words_drop k 1 a.0 wa in
      let c = refresh_last r ws a.1 in
      let ic = (refresh_last_rule (m + 2) r (length-drop 1 a.0 ∙ omega arith)).makes ws a.1 in
      let s = psis k a.0 in
      let b = refresh_last s ws c.1 in
      let ib = (refresh_last_rule (m + 2) s (length_psis k a.0 ∙ omega arith)).makes ws c.1 in
      let lc : length (joined c.0) ≡ suc m = length_joined c.0 ∙ omega arith in
      let lb : length (joined b.0) ≡ suc m = length_joined b.0 ∙ omega arith in
      let p = short_of k (suc m) (joined c.0) ws b.1 in
      let q = short_of k (suc m) (joined b.0) ws p.1 in
      let wc = words_joined k c.0 (words_refreshed k ws hw r a.1 wr) in
      let wb = words_joined k b.0 (words_refreshed k ws hw s c.1 (words_psis k a.0 wa)) in
      summed_sums k m p.0 q.0
      ((short_rule k (suc m) (joined c.0) lc).makes ws b.1)
      ((short_rule k (suc m) (joined b.0) lb).makes ws p.1)
      ∙ two_parts k f (opened r) (total p.0) (total q.0) (wa 0) (opened_lt k r wr)
      (short_adds (suc m) (joined c.0) b.1 lc wc ∙ joined_opens c.0 (omega arith) ∙ ic.1)
      (short_adds (suc m) (joined b.0) p.1 lb wb ∙ joined_opens b.0 (omega arith) ∙ ib.1
      ∙ psis_opens k a.0 (omega arith) wa)
      ∙ sym (opened_drop a.0 0 (omega arith)) ∙ ia.1 ∙ opened_append x (0 ∷ []) ∙ xor_zero_r (opened x)

-- ---- of as many shares as there are
module _ (k : ℕ) (x : List ℕ) where
  pub to_arith_short_rule : Rule (short_draws (length x)) (λ z. length z ≡ length x) (to_arith_short k x)
  unfolding to_arith_short
  to_arith_short_rule = short_rule k (length x) x refl

  pub to_arith_short_opens : (ws : List ℕ) (at : ℕ) → Words k ws → Words k x
      → opened_sum k (to_arith_short k x ws at).0 ≡ opened x
  unfolding to_arith_short
  to_arith_short_opens ws at hw = short_adds k ws hw (length x) x at refl

-- ---- V(1), V(n) from V(n−1), and in closed form
pub short_none : (n : ℕ) → n ≤ 1 → short_draws n ≡ 0
unfolding short_draws
short_none zero h = refl
short_none (suc zero) h = refl
short_none (suc (suc m)) h = absurd (omega arith)

pub short_more : (n : ℕ) → 1 < n → short_draws n ≡ 3 * n - 2 + 2 * short_draws (n - 1)
unfolding short_draws
short_more zero h = absurd (omega arith)
short_more (suc zero) h = absurd (omega arith)
short_more (suc (suc m)) h = let e : suc (suc m) - 1 ≡ suc m = omega arith in rw e

closed : (m : ℕ) → short_draws (suc m) + (3 * suc m + 4) ≡ 7 * 2 ^ m
unfolding short_draws
closed zero = refl
closed (suc m) = rw (pow-suc 2 m) (omega (arith, closed m))

pub short_closed : (n : ℕ) → 0 < n → short_draws n ≡ 7 * 2 ^ (n - 1) - 3 * n - 4
short_closed zero h = absurd (omega arith)
short_closed (suc m) h = let e : suc m - 1 ≡ m = omega arith in rw e (omega (arith, closed m))

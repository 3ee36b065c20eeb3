-- Section 7: the reference values marked P, as rows of one table: what the definition gives, and what the document
-- states.
use Rattle.std.specs.Prelude.{ℕ, ◌≡◌, refl, List, [], ◌∷◌, map, ◌++◌, drop, replicate}
use Rattle.words.specs.Word.{plus, minus, shift}
use Rattle.rules.specs.Goubin.{psi, b2a_record, a2b_start, a2b_round, a2b_rounds, a2b_record}
use Rattle.rules.specs.Supply.{next, opened}
use Rattle.rules.specs.Shares.{each, pass, along, order, column, refresh_last, refresh, expand, and, carries, add}
use Rattle.rules.specs.Convert.{power_to, widen, halved, to_bool_in, to_bool, to_arith}
use Rattle.rules.specs.Short.{psis, joined, summed, shorter, short_of, to_arith_short}
use Rattle.rules.specs.Counts.{and_draws, add_draws, to_bool_draws_in, to_bool_draws, quarter_ands, rounds_ands}
use Rattle.rules.specs.Counts.{compress_ands, hmac_draws, sha1, sha256}

pub record Row : Type 0 where
  pub given : List ℕ
  pub stated : List ℕ

abbrev row : List ℕ → List ℕ → Row
row given stated = record { given = given; stated = stated }

pub table : List Row
table =
    -- P1: k=8, x'=12, r=34, G=56
    row (b2a_record 8 0x12 0x34 0x56) (0x44 ∷ 0xEE ∷ 0xFC ∷ 0x62 ∷ 0x70 ∷ 0x0E ∷ 0xF2 ∷ []) ∷
    -- P2: k=4, A=9, r=C, G=6
    row (a2b_record 4 9 0xC 6)
    ((0xC ∷ 0xA ∷ 2 ∷ 5 ∷ 3 ∷ 0 ∷ 2 ∷ 8 ∷ 0xA ∷ [])
    ++ (0xC ∷ 6 ∷ 8 ∷ 0xE ∷ 0xC ∷ [])
    ++ (0xC ∷ 6 ∷ 8 ∷ 0xE ∷ 0xC ∷ [])
    ++ (0xC ∷ 6 ∷ 8 ∷ 0xE ∷ 0xC ∷ [])
    ++ (9 ∷ [])) ∷
    -- P3: AND, k=8: (F0, 0F), (3C, 00), word 55
    row (and (0xF0 ∷ 0x0F ∷ []) (0x3C ∷ 0 ∷ []) (0x55 ∷ []) 0).0 (0x65 ∷ 0x59 ∷ []) ∷
    -- P4, of the refresh before request (v): (01, 02, 04) with 10, 20
    row (refresh_last (1 ∷ 2 ∷ 4 ∷ []) (0x10 ∷ 0x20 ∷ []) 0).0 (0x11 ∷ 0x22 ∷ 0x34 ∷ []) ∷
    -- P5: expand (11, 22) with 01, 02
    row (expand (0x11 ∷ 0x22 ∷ []) (1 ∷ 2 ∷ []) 0).0 (0x10 ∷ 1 ∷ 0x20 ∷ 2 ∷ []) ∷
    -- P6: k=8, x'=r=G=00
    row (b2a_record 8 0 0 0) (0 ∷ 0 ∷ 0 ∷ 0 ∷ 0 ∷ 0 ∷ 0 ∷ []) ∷
    -- P7: k=8, A=FF, r=01, G=00: the last of its 45 entries
    row (drop 44 (a2b_record 8 0xFF 1 0)) (1 ∷ []) ∷
    -- P8: k=8, x'=12: Ψ(00), Ψ(34)
    row (psi 8 0x12 0 ∷ psi 8 0x12 0x34 ∷ []) (0x12 ∷ 0xF2 ∷ []) ∷
    -- P9: W(2), W(4), W(8), and W(3) of request (vi), as the conversion itself draws at 32 bits
    row (map (λ n. (to_bool (add 32) (replicate n 0) [] 0).1) (2 ∷ 4 ∷ 8 ∷ 3 ∷ [])) (34 ∷ 264 ∷ 1432 ∷ 134 ∷ []) ∷
    -- P10, amended by (v): Boolean to arithmetic at 1, 2, 4 and 8 shares, as the conversion itself draws
    row (map (λ n. (to_arith 32 (add 32) refresh (replicate n 0) [] 0).1) (1 ∷ 2 ∷ 4 ∷ 8 ∷ []))
    (0 ∷ 68 ∷ 465 ∷ 2363 ∷ []) ∷
    -- P11: HMAC at 2 shares, of 55 and of 56 bytes; that HMAC draws so is hmac_shares_sized of proofs/Sizes.antt
    row (map (hmac_draws (sha1 32) 2) (55 ∷ 56 ∷ [])) (41760 ∷ 52200 ∷ []) ∷
    -- request (iv): V(1), V(2), V(3), V(4) and V(8), as the short conversion itself draws
    row (map (λ n. (to_arith_short 32 (replicate n 0) [] 0).1) (1 ∷ 2 ∷ 3 ∷ 4 ∷ 8 ∷ [])) (0 ∷ 4 ∷ 15 ∷ 40 ∷ 868 ∷ []) ∷
    -- request (v): refresh (01, 02, 04) with 10, 20, 40; and, where the order of the pairs shows, (01, 02, 04, 08) with
    -- 10, 20, 40, 80, 100, 200
    row (refresh (1 ∷ 2 ∷ 4 ∷ []) (0x10 ∷ 0x20 ∷ 0x40 ∷ []) 0).0 (0x31 ∷ 0x52 ∷ 0x64 ∷ []) ∷
    row (refresh (1 ∷ 2 ∷ 4 ∷ 8 ∷ []) (0x10 ∷ 0x20 ∷ 0x40 ∷ 0x80 ∷ 0x100 ∷ 0x200 ∷ []) 0).0
    (0x71 ∷ 0x192 ∷ 0x2A4 ∷ 0x348 ∷ []) ∷
    -- request (vi): W(1) to W(16); that the conversion draws so is to_bool_rule of proofs/Conversion.antt
    row (map (to_bool_draws (add_draws 32))
    (1 ∷ 2 ∷ 3 ∷ 4 ∷ 5 ∷ 6 ∷ 7 ∷ 8 ∷ 9 ∷ 10 ∷ 11 ∷ 12 ∷ 13 ∷ 14 ∷ 15 ∷ 16 ∷ []))
    (0 ∷ 34 ∷ 134 ∷ 264 ∷ 496 ∷ 758 ∷ 1082 ∷ 1432 ∷ 1928 ∷ 2450 ∷ 3034 ∷ 3650 ∷ 4360 ∷ 5102 ∷ 5902 ∷ 6720 ∷ []) ∷
    -- and at 2 bits arithmetic to Boolean of (1, 2, 3) with 2, 1, 3, 1, 0, 3, 2, 1, 1, 3, 0, 2, 1, 2
    row (to_bool (add 2) (1 ∷ 2 ∷ 3 ∷ [])
    (2 ∷ 1 ∷ 3 ∷ 1 ∷ 0 ∷ 3 ∷ 2 ∷ 1 ∷ 1 ∷ 3 ∷ 0 ∷ 2 ∷ 1 ∷ 2 ∷ []) 0).0 (0 ∷ 0 ∷ 2 ∷ []) ∷
    -- request (vii): HMAC-SHA-256 at 2 shares, of 55 and of 56 bytes, by the closed form as P11
    row (map (hmac_draws (sha256 32) 2) (55 ∷ 56 ∷ [])) (77312 ∷ 96640 ∷ []) ∷
    []

pub reference : map (λ (r : Row). r.given) table ≡ map (λ (r : Row). r.stated) table
unfolding table psi b2a_record a2b_start a2b_round a2b_rounds a2b_record plus minus shift next opened
    each pass along order column refresh_last refresh expand and carries add
    power_to widen halved to_bool_in to_bool to_arith psis joined summed shorter short_of to_arith_short
    and_draws to_bool_draws_in to_bool_draws quarter_ands rounds_ands compress_ands
reference = refl

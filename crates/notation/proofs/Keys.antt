-- The text of a call, read back, is the call. Assumes nothing.
use mathlib.Core.Path.{◌≡◌, ap}
use mathlib.Core.List.{List, [], ◌∷◌}
use Prim.Native.Nat.{ℕ, suc}
use Rattle.spelling.specs.Words.{key_of, separator}
use Rattle.notation.specs.declared.Scan.{Scan}
use Rattle.notation.specs.Reading.{on_list, on_comma, ended, mark_read, byte_read, step, scan, key_code}
use Rattle.notation.specs.Computing.{computing}
use Rattle.notation.proofs.Numbers.{mid, Settles, Plain, Before}

-- ---- what stands before a number

-- a space, a comma behind a number, or the line's end looks only at what the word or number before it comes to
space-step : (s : Scan) (tag item : ℕ) (ns : List ℕ) (h : Settles s tag item ns) (i : ℕ) → step s 32 i ≡ mid tag item h.start h.value ns
unfolding step byte_read
space-step s tag item ns h i = rw h.active h.is

comma-step : (s : Scan) (tag item : ℕ) (ns : List ℕ) (h : Settles s tag item ns) → Plain s → (i : ℕ)
    → step s 44 i ≡ on_list (mid tag item h.start h.value ns) i
unfolding step byte_read mark_read on_comma
comma-step s tag item ns h p i = rw (h.active, h.is, p.0, p.1)

pub end_step : (s : Scan) (tag item : ℕ) (ns : List ℕ) (h : Settles s tag item ns) (i : ℕ) → step s 10 i ≡ ended (mid tag item h.start h.value ns) i
unfolding step byte_read
end_step s tag item ns h i = rw (h.active, h.is)

pub key-1-0 : (s : Scan) (ns : List ℕ) (i : ℕ) → Settles s 1 0 ns → Before (scan s i (separator (key_of 1 0))) 1 0 ns
unfolding computing
key-1-0 s ns i h =
    record { start = suc i; value = key_code 1 0; is = ap (λ (t : Scan). scan t (suc i) (112 ∷ 111 ∷ 111 ∷ 108 ∷ 115 ∷ 32 ∷ [])) (space-step s 1 0 ns h i) }

pub key-1-1 : (s : Scan) (ns : List ℕ) (i : ℕ) → Settles s 1 1 ns → Before (scan s i (separator (key_of 1 1))) 1 1 ns
unfolding computing
key-1-1 s ns i h =
    record { start = suc i; value = key_code 1 1; is = ap (λ (t : Scan). scan t (suc i) (108 ∷ 101 ∷ 97 ∷ 115 ∷ 116 ∷ 32 ∷ [])) (space-step s 1 1 ns h i) }

pub key-1-2 : (s : Scan) (ns : List ℕ) (i : ℕ) → Settles s 1 2 ns → Before (scan s i (separator (key_of 1 2))) 1 2 ns
unfolding computing
key-1-2 s ns i h =
    record { start = suc i; value = key_code 1 2; is = ap (λ (t : Scan). scan t (suc i) (109 ∷ 101 ∷ 109 ∷ 98 ∷ 101 ∷ 114 ∷ 115 ∷ 32 ∷ [])) (space-step s 1 2 ns h i) }

pub key-1-3 : (s : Scan) (ns : List ℕ) (i : ℕ) → Settles s 1 3 ns → Before (scan s i (separator (key_of 1 3))) 1 3 ns
unfolding computing
key-1-3 s ns i h =
    record { start = suc i; value = key_code 1 3; is = ap (λ (t : Scan). scan t (suc i) (104 ∷ 101 ∷ 100 ∷ 103 ∷ 101 ∷ 32 ∷ [])) (space-step s 1 3 ns h i) }

pub key-1-4 : (s : Scan) (ns : List ℕ) (i : ℕ) → Settles s 1 4 ns → Before (scan s i (separator (key_of 1 4))) 1 4 ns
unfolding computing
key-1-4 s ns i h =
    record { start = suc i; value = key_code 1 4; is = ap (λ (t : Scan). scan t (suc i) (111 ∷ 116 ∷ 104 ∷ 101 ∷ 114 ∷ 32 ∷ [])) (space-step s 1 4 ns h i) }

pub key-1-5 : (s : Scan) (ns : List ℕ) (i : ℕ) → Settles s 1 5 ns → Before (scan s i (separator (key_of 1 5))) 1 5 ns
unfolding computing
key-1-5 s ns i h =
    record { start = suc i; value = key_code 1 5; is = ap (λ (t : Scan). scan t (suc i) (109 ∷ 97 ∷ 114 ∷ 103 ∷ 105 ∷ 110 ∷ 32 ∷ [])) (space-step s 1 5 ns h i) }

pub key-1-6 : (s : Scan) (ns : List ℕ) (i : ℕ) → Settles s 1 6 ns → Before (scan s i (separator (key_of 1 6))) 1 6 ns
unfolding computing
key-1-6 s ns i h =
    record { start = suc i; value = key_code 1 6; is = ap (λ (t : Scan). scan t (suc i) (102 ∷ 117 ∷ 110 ∷ 100 ∷ 32 ∷ [])) (space-step s 1 6 ns h i) }

pub key-1-7 : (s : Scan) (ns : List ℕ) (i : ℕ) → Settles s 1 7 ns → Before (scan s i (separator (key_of 1 7))) 1 7 ns
unfolding computing
key-1-7 s ns i h =
    record { start = suc i; value = key_code 1 7; is = ap (λ (t : Scan). scan t (suc i) (104 ∷ 111 ∷ 117 ∷ 115 ∷ 101 ∷ 32 ∷ [])) (space-step s 1 7 ns h i) }

pub key-2-0 : (s : Scan) (ns : List ℕ) (i : ℕ) → Settles s 2 0 ns → Before (scan s i (separator (key_of 2 0))) 2 0 ns
unfolding computing
key-2-0 s ns i h =
    record { start = suc i; value = key_code 2 0; is = ap (λ (t : Scan). scan t (suc i) (112 ∷ 111 ∷ 111 ∷ 108 ∷ 32 ∷ [])) (space-step s 2 0 ns h i) }

pub key-2-1 : (s : Scan) (ns : List ℕ) (i : ℕ) → Settles s 2 1 ns → Before (scan s i (separator (key_of 2 1))) 2 1 ns
unfolding computing
key-2-1 s ns i h =
    record { start = suc i; value = key_code 2 1; is = ap (λ (t : Scan). scan t (suc i) (117 ∷ 110 ∷ 105 ∷ 116 ∷ 115 ∷ 32 ∷ [])) (space-step s 2 1 ns h i) }

pub key-2-2 : (s : Scan) (ns : List ℕ) (i : ℕ) → Settles s 2 2 ns → Before (scan s i (separator (key_of 2 2))) 2 2 ns
unfolding computing
key-2-2 s ns i h =
    record { start = suc i; value = key_code 2 2; is = ap (λ (t : Scan). scan t (suc i) (109 ∷ 97 ∷ 114 ∷ 107 ∷ 32 ∷ [])) (space-step s 2 2 ns h i) }

pub key-3-0 : (s : Scan) (ns : List ℕ) (i : ℕ) → Settles s 3 0 ns → Before (scan s i (separator (key_of 3 0))) 3 0 ns
unfolding computing
key-3-0 s ns i h =
    record { start = suc i; value = key_code 3 0; is = ap (λ (t : Scan). scan t (suc i) (109 ∷ 101 ∷ 109 ∷ 98 ∷ 101 ∷ 114 ∷ 32 ∷ [])) (space-step s 3 0 ns h i) }

pub key-3-1 : (s : Scan) (ns : List ℕ) (i : ℕ) → Settles s 3 1 ns → Before (scan s i (separator (key_of 3 1))) 3 1 ns
unfolding computing
key-3-1 s ns i h =
    record { start = suc i; value = key_code 3 1; is = ap (λ (t : Scan). scan t (suc i) (99 ∷ 111 ∷ 110 ∷ 116 ∷ 114 ∷ 105 ∷ 98 ∷ 117 ∷ 116 ∷ 105 ∷ 111 ∷ 110 ∷ 32 ∷ [])) (space-step s 3 1 ns h i) }

pub key-3-2 : (s : Scan) (ns : List ℕ) (i : ℕ) → Settles s 3 2 ns → Before (scan s i (separator (key_of 3 2))) 3 2 ns
unfolding computing
key-3-2 s ns i h =
    record { start = suc i; value = key_code 3 2; is = ap (λ (t : Scan). scan t (suc i) (101 ∷ 120 ∷ 112 ∷ 101 ∷ 99 ∷ 116 ∷ 101 ∷ 100 ∷ 32 ∷ [])) (space-step s 3 2 ns h i) }

pub key-3-3 : (s : Scan) (ns : List ℕ) (i : ℕ) → Settles s 3 3 ns → Plain s → Before (scan s i (separator (key_of 3 3))) 3 3 ns
unfolding computing
key-3-3 s ns i h p = record { start = h.start; value = h.value; is = comma-step s 3 3 ns h p i }

pub key-3-4 : (s : Scan) (ns : List ℕ) (i : ℕ) → Settles s 3 4 ns → Plain s → Before (scan s i (separator (key_of 3 4))) 3 4 ns
unfolding computing
key-3-4 s ns i h p = record { start = h.start; value = h.value; is = comma-step s 3 4 ns h p i }

pub key-3-5 : (s : Scan) (ns : List ℕ) (i : ℕ) → Settles s 3 5 ns → Plain s → Before (scan s i (separator (key_of 3 5))) 3 5 ns
unfolding computing
key-3-5 s ns i h p = record { start = h.start; value = h.value; is = comma-step s 3 5 ns h p i }

pub key-4-0 : (s : Scan) (ns : List ℕ) (i : ℕ) → Settles s 4 0 ns → Before (scan s i (separator (key_of 4 0))) 4 0 ns
unfolding computing
key-4-0 s ns i h =
    record { start = suc i; value = key_code 4 0; is = ap (λ (t : Scan). scan t (suc i) (114 ∷ 101 ∷ 115 ∷ 101 ∷ 114 ∷ 118 ∷ 101 ∷ 115 ∷ 32 ∷ [])) (space-step s 4 0 ns h i) }

pub key-4-1 : (s : Scan) (ns : List ℕ) (i : ℕ) → Settles s 4 1 ns → Plain s → Before (scan s i (separator (key_of 4 1))) 4 1 ns
unfolding computing
key-4-1 s ns i h p = record { start = h.start; value = h.value; is = comma-step s 4 1 ns h p i }

pub key-4-2 : (s : Scan) (ns : List ℕ) (i : ℕ) → Settles s 4 2 ns → Plain s → Before (scan s i (separator (key_of 4 2))) 4 2 ns
unfolding computing
key-4-2 s ns i h p = record { start = h.start; value = h.value; is = comma-step s 4 2 ns h p i }

pub key-4-3 : (s : Scan) (ns : List ℕ) (i : ℕ) → Settles s 4 3 ns → Plain s → Before (scan s i (separator (key_of 4 3))) 4 3 ns
unfolding computing
key-4-3 s ns i h p = record { start = h.start; value = h.value; is = comma-step s 4 3 ns h p i }

pub key-5-0 : (s : Scan) (ns : List ℕ) (i : ℕ) → Settles s 5 0 ns → Before (scan s i (separator (key_of 5 0))) 5 0 ns
unfolding computing
key-5-0 s ns i h =
    record { start = suc i; value = key_code 5 0; is = ap (λ (t : Scan). scan t (suc i) (112 ∷ 111 ∷ 111 ∷ 108 ∷ 32 ∷ [])) (space-step s 5 0 ns h i) }

pub key-5-1 : (s : Scan) (ns : List ℕ) (i : ℕ) → Settles s 5 1 ns → Before (scan s i (separator (key_of 5 1))) 5 1 ns
unfolding computing
key-5-1 s ns i h =
    record { start = suc i; value = key_code 5 1; is = ap (λ (t : Scan). scan t (suc i) (109 ∷ 101 ∷ 109 ∷ 98 ∷ 101 ∷ 114 ∷ 32 ∷ [])) (space-step s 5 1 ns h i) }

pub key-5-2 : (s : Scan) (ns : List ℕ) (i : ℕ) → Settles s 5 2 ns → Before (scan s i (separator (key_of 5 2))) 5 2 ns
unfolding computing
key-5-2 s ns i h =
    record { start = suc i; value = key_code 5 2; is = ap (λ (t : Scan). scan t (suc i) (117 ∷ 110 ∷ 105 ∷ 116 ∷ 115 ∷ 32 ∷ [])) (space-step s 5 2 ns h i) }

pub key-5-3 : (s : Scan) (ns : List ℕ) (i : ℕ) → Settles s 5 3 ns → Before (scan s i (separator (key_of 5 3))) 5 3 ns
unfolding computing
key-5-3 s ns i h =
    record { start = suc i; value = key_code 5 3; is = ap (λ (t : Scan). scan t (suc i) (112 ∷ 114 ∷ 105 ∷ 99 ∷ 101 ∷ 32 ∷ [])) (space-step s 5 3 ns h i) }

pub key-7-0 : (s : Scan) (ns : List ℕ) (i : ℕ) → Settles s 7 0 ns → Before (scan s i (separator (key_of 7 0))) 7 0 ns
unfolding computing
key-7-0 s ns i h =
    record { start = suc i; value = key_code 7 0; is = ap (λ (t : Scan). scan t (suc i) (112 ∷ 111 ∷ 111 ∷ 108 ∷ 32 ∷ [])) (space-step s 7 0 ns h i) }

pub key-7-1 : (s : Scan) (ns : List ℕ) (i : ℕ) → Settles s 7 1 ns → Before (scan s i (separator (key_of 7 1))) 7 1 ns
unfolding computing
key-7-1 s ns i h =
    record { start = suc i; value = key_code 7 1; is = ap (λ (t : Scan). scan t (suc i) (112 ∷ 114 ∷ 105 ∷ 99 ∷ 101 ∷ 32 ∷ [])) (space-step s 7 1 ns h i) }

pub key-8-0 : (s : Scan) (ns : List ℕ) (i : ℕ) → Settles s 8 0 ns → Before (scan s i (separator (key_of 8 0))) 8 0 ns
unfolding computing
key-8-0 s ns i h =
    record { start = suc i; value = key_code 8 0; is = ap (λ (t : Scan). scan t (suc i) (112 ∷ 111 ∷ 111 ∷ 108 ∷ 32 ∷ [])) (space-step s 8 0 ns h i) }

pub key-8-1 : (s : Scan) (ns : List ℕ) (i : ℕ) → Settles s 8 1 ns → Before (scan s i (separator (key_of 8 1))) 8 1 ns
unfolding computing
key-8-1 s ns i h =
    record { start = suc i; value = key_code 8 1; is = ap (λ (t : Scan). scan t (suc i) (112 ∷ 114 ∷ 105 ∷ 99 ∷ 101 ∷ 32 ∷ [])) (space-step s 8 1 ns h i) }

pub key-10-0 : (s : Scan) (ns : List ℕ) (i : ℕ) → Settles s 10 0 ns → Before (scan s i (separator (key_of 10 0))) 10 0 ns
unfolding computing
key-10-0 s ns i h =
    record { start = suc i; value = key_code 10 0; is = ap (λ (t : Scan). scan t (suc i) (109 ∷ 101 ∷ 109 ∷ 98 ∷ 101 ∷ 114 ∷ 32 ∷ [])) (space-step s 10 0 ns h i) }

pub key-10-1 : (s : Scan) (ns : List ℕ) (i : ℕ) → Settles s 10 1 ns → Before (scan s i (separator (key_of 10 1))) 10 1 ns
unfolding computing
key-10-1 s ns i h =
    record { start = suc i; value = key_code 10 1; is = ap (λ (t : Scan). scan t (suc i) (97 ∷ 109 ∷ 111 ∷ 117 ∷ 110 ∷ 116 ∷ 32 ∷ [])) (space-step s 10 1 ns h i) }

pub key-11-0 : (s : Scan) (ns : List ℕ) (i : ℕ) → Settles s 11 0 ns → Before (scan s i (separator (key_of 11 0))) 11 0 ns
unfolding computing
key-11-0 s ns i h =
    record { start = suc i; value = key_code 11 0; is = ap (λ (t : Scan). scan t (suc i) (109 ∷ 101 ∷ 109 ∷ 98 ∷ 101 ∷ 114 ∷ 32 ∷ [])) (space-step s 11 0 ns h i) }

pub key-12-0 : (s : Scan) (ns : List ℕ) (i : ℕ) → Settles s 12 0 ns → Before (scan s i (separator (key_of 12 0))) 12 0 ns
unfolding computing
key-12-0 s ns i h =
    record { start = suc i; value = key_code 12 0; is = ap (λ (t : Scan). scan t (suc i) (109 ∷ 101 ∷ 109 ∷ 98 ∷ 101 ∷ 114 ∷ 32 ∷ [])) (space-step s 12 0 ns h i) }

pub key-12-1 : (s : Scan) (ns : List ℕ) (i : ℕ) → Settles s 12 1 ns → Before (scan s i (separator (key_of 12 1))) 12 1 ns
unfolding computing
key-12-1 s ns i h =
    record { start = suc i; value = key_code 12 1; is = ap (λ (t : Scan). scan t (suc i) (112 ∷ 114 ∷ 105 ∷ 99 ∷ 101 ∷ 32 ∷ [])) (space-step s 12 1 ns h i) }

pub key-14-0 : (s : Scan) (ns : List ℕ) (i : ℕ) → Settles s 14 0 ns → Before (scan s i (separator (key_of 14 0))) 14 0 ns
unfolding computing
key-14-0 s ns i h =
    record { start = suc i; value = key_code 14 0; is = ap (λ (t : Scan). scan t (suc i) (112 ∷ 111 ∷ 111 ∷ 108 ∷ 32 ∷ [])) (space-step s 14 0 ns h i) }

pub key-14-1 : (s : Scan) (ns : List ℕ) (i : ℕ) → Settles s 14 1 ns → Before (scan s i (separator (key_of 14 1))) 14 1 ns
unfolding computing
key-14-1 s ns i h =
    record { start = suc i; value = key_code 14 1; is = ap (λ (t : Scan). scan t (suc i) (109 ∷ 101 ∷ 109 ∷ 98 ∷ 101 ∷ 114 ∷ 32 ∷ [])) (space-step s 14 1 ns h i) }

pub key-14-2 : (s : Scan) (ns : List ℕ) (i : ℕ) → Settles s 14 2 ns → Before (scan s i (separator (key_of 14 2))) 14 2 ns
unfolding computing
key-14-2 s ns i h =
    record { start = suc i; value = key_code 14 2; is = ap (λ (t : Scan). scan t (suc i) (112 ∷ 114 ∷ 105 ∷ 99 ∷ 101 ∷ 32 ∷ [])) (space-step s 14 2 ns h i) }

pub key-15-0 : (s : Scan) (ns : List ℕ) (i : ℕ) → Settles s 15 0 ns → Before (scan s i (separator (key_of 15 0))) 15 0 ns
unfolding computing
key-15-0 s ns i h =
    record { start = suc i; value = key_code 15 0; is = ap (λ (t : Scan). scan t (suc i) (109 ∷ 101 ∷ 109 ∷ 98 ∷ 101 ∷ 114 ∷ 32 ∷ [])) (space-step s 15 0 ns h i) }

pub key-15-1 : (s : Scan) (ns : List ℕ) (i : ℕ) → Settles s 15 1 ns → Before (scan s i (separator (key_of 15 1))) 15 1 ns
unfolding computing
key-15-1 s ns i h =
    record { start = suc i; value = key_code 15 1; is = ap (λ (t : Scan). scan t (suc i) (98 ∷ 105 ∷ 100 ∷ 32 ∷ [])) (space-step s 15 1 ns h i) }

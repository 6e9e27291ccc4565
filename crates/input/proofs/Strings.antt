-- Strings cut out of a run of bytes, and numbers written in front of what was there. Assumes nothing.
use mathlib.Core.Path.{◌≡◌, refl, ap, ◌∙◌}
use mathlib.Core.List.{List, [], ◌∷◌, ◌++◌}
use Prim.Native.Nat.{ℕ, zero, suc, ◌+◌, ◌-◌, ◌≤◌, ◌<◌, min}
use native.Mathlib.Omega.{arith}
use lib.Dec.{ltb}
use lib.ListN.{length, set, get_or, take, drop}
use borrow.Author.Tests.{lt-ltb, le-ltb, ltb-false}
use Rattle.lists.proofs.Bools.{by-test}
use Rattle.lists.specs.Lists.{Bytes}
use Rattle.lists.proofs.Each.{Each, each_take, each-drop}
use Rattle.input.specs.Strings.{cut_at, strings_from, in_front, ends_from, bytes_of}

-- ---- where a string ends

module _ (at n end : ℕ) where
  pub cut_below : end < at → at ≡ cut_at at n end
  unfolding cut_at
  cut_below l = rw (lt-ltb end at l)

  pub cut-behind : at ≤ end → min end n ≡ cut_at at n end
  unfolding cut_at
  cut-behind l = rw (le-ltb end at l) refl

  pub cut-there : at ≤ end → end ≤ n → cut_at at n end ≡ end
  unfolding cut_at
  cut-there l m = rw (le-ltb end at l) (omega arith)

  pub cut-from : at ≤ n → at ≤ cut_at at n end
  unfolding cut_at
  cut-from l = by-test (λ (v : ℕ). at ≤ v) (ltb end at) (λ t. omega arith) (λ f. omega (arith, ltb-false end at f))

  pub cut-to : at ≤ n → cut_at at n end ≤ n
  unfolding cut_at
  cut-to l = by-test (λ (v : ℕ). v ≤ n) (ltb end at) (λ t. omega arith) (λ f. omega arith)

-- ---- the strings of bytes are bytes

pub strings-bytes : (at : ℕ) (bytes ends : List ℕ) → Bytes bytes → Each Bytes (strings_from at bytes ends)
unfolding strings_from
strings-bytes at bytes [] b = tt
strings-bytes at bytes (end ∷ ends) b =
    let to = cut_at at (length bytes) end in
    (each_take _ (to - at) (drop at bytes) (each-drop _ at bytes b), strings-bytes to bytes ends b)

-- ---- a number written behind those in front

pub front-next : (xs old : List ℕ) (x : ℕ) → set (in_front xs old) (length xs) x ≡ in_front (xs ++ (x ∷ [])) old
unfolding in_front
front-next [] [] x = refl
front-next [] (y ∷ old) x = refl
front-next (z ∷ xs) [] x = refl
front-next (z ∷ xs) (y ∷ old) x = ap (λ (l : List ℕ). z ∷ l) (front-next xs old x)

-- ---- numbers in front

pub front_long : (xs old : List ℕ) → length (in_front xs old) ≡ length old
unfolding in_front
front_long [] old = refl
front_long (x ∷ xs) [] = refl
front_long (x ∷ xs) (y ∷ old) = ap suc (front_long xs old)

pub front-taken : (xs old : List ℕ) → length xs ≤ length old → take (length xs) (in_front xs old) ≡ xs
unfolding in_front
front-taken [] old l = refl
front-taken (x ∷ xs) [] l = absurd (omega arith)
front-taken (x ∷ xs) (y ∷ old) l = ap (λ (r : List ℕ). x ∷ r) (front-taken xs old (omega arith))

pub front-left : (xs old : List ℕ) → drop (length xs) (in_front xs old) ≡ drop (length xs) old
unfolding in_front
front-left [] old = refl
front-left (x ∷ xs) [] = refl
front-left (x ∷ xs) (y ∷ old) = front-left xs old

pub front_at : (xs old : List ℕ) (k : ℕ) → k < length xs → length xs ≤ length old → get_or (in_front xs old) k 0 ≡ get_or xs k 0
unfolding in_front
front_at [] old k l m = absurd (omega arith)
front_at (x ∷ xs) [] k l m = absurd (omega arith)
front_at (x ∷ xs) (y ∷ old) zero l m = refl
front_at (x ∷ xs) (y ∷ old) (suc k) l m = front_at xs old k (omega arith) (omega arith)

-- ---- where strings end

pub ends-long : (at : ℕ) (fs : List (List ℕ)) → length (ends_from at fs) ≡ length fs
unfolding ends_from
ends-long at [] = refl
ends-long at (f ∷ fs) = ap suc (ends-long (at + length f) fs)

-- the last end is behind all bytes
pub end-last : (at : ℕ) (f : List ℕ) (fs : List (List ℕ)) → get_or (ends_from at (f ∷ fs)) (length fs) 0 ≡ at + bytes_of (f ∷ fs)
unfolding ends_from bytes_of
end-last at f [] = omega arith
end-last at f (g ∷ fs) = end-last (at + length f) g fs ∙ omega arith

-- one more string
pub ends_more : (at : ℕ) (fs : List (List ℕ)) (f : List ℕ) → ends_from at (fs ++ (f ∷ [])) ≡ ends_from at fs ++ ((at + bytes_of fs + length f) ∷ [])
unfolding ends_from bytes_of
ends_more at [] f = let e : at + length f ≡ at + 0 + length f = omega arith in rw e
ends_more at (g ∷ fs) f =
    ap (λ (l : List ℕ). (at + length g) ∷ l)
    (ends_more (at + length g) fs f ∙ ap (λ (n : ℕ). ends_from (at + length g) fs ++ ((n + length f) ∷ [])) (omega arith))

pub bytes-more : (fs : List (List ℕ)) (f : List ℕ) → bytes_of (fs ++ (f ∷ [])) ≡ bytes_of fs + length f
unfolding bytes_of
bytes-more [] f = omega arith
bytes-more (g ∷ fs) f = omega (arith, bytes-more fs f)

-- strings behind strings
pub bytes-two : (fs gs : List (List ℕ)) → bytes_of (fs ++ gs) ≡ bytes_of fs + bytes_of gs
unfolding bytes_of
bytes-two [] gs = omega arith
bytes-two (f ∷ fs) gs = omega (arith, bytes-two fs gs)

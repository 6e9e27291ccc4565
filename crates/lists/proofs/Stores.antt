-- Stores into a list, one after the other. Assumes nothing.
use mathlib.Core.Path.{◌≡◌, refl, sym, ap, ◌∙◌}
use mathlib.Core.List.{List, [], ◌∷◌, ◌++◌}
use Prim.Native.Nat.{ℕ, zero, suc, ◌+◌, ◌≤◌, ◌<◌}
use native.Mathlib.Nat.{zero-add}
use native.Mathlib.Numerals.{add-one}
use native.Mathlib.Omega.{arith}
use lib.ListN.{length, get_or, set, length-set}
use lib.Seq.{sets, get_or-set_same, get_or-set_other}
use Rattle.lists.specs.Lists.{tab}
use Rattle.lists.proofs.Places.{length-tab, tab-last}

-- a text behind a text
pub sets_then : (l : List ℕ) (i : ℕ) (vs ws : List ℕ) → sets (sets l i vs) (i + length vs) ws ≡ sets l i (vs ++ ws)
sets_then l i [] ws = ap (λ (k : ℕ). sets l k ws) (omega arith)
sets_then l i (a ∷ vs) ws = ap (λ (k : ℕ). sets (sets (set l i a) (suc i) vs) k ws) (omega arith) ∙ sets_then (set l i a) (suc i) vs ws

set-swap : (l : List ℕ) (i j a b : ℕ) → i < j → set (set l j b) i a ≡ set (set l i a) j b
set-swap [] i j a b h = refl
set-swap (x ∷ l) i zero a b h = absurd (omega arith)
set-swap (x ∷ l) zero (suc j) a b h = refl
set-swap (x ∷ l) (suc i) (suc j) a b h = ap (λ (r : List ℕ). x ∷ r) (set-swap l i j a b (omega arith))

-- a byte before a text
pub sets-before : (l : List ℕ) (i j a : ℕ) (vs : List ℕ) → i < j → set (sets l j vs) i a ≡ sets (set l i a) j vs
sets-before l i j a [] h = refl
sets-before l i j a (b ∷ vs) h = sets-before (set l j b) i (suc j) a vs (omega arith) ∙ ap (λ (r : List ℕ). sets r (suc j) vs) (set-swap l i j a b h)

-- a byte right before a text
pub sets-earlier : (l : List ℕ) (i a : ℕ) (vs : List ℕ) → set (sets l (i + 1) vs) i a ≡ sets l i (a ∷ vs)
sets-earlier l i a vs = sets-before l i (i + 1) a vs (omega arith) ∙ ap (λ (k : ℕ). sets (set l i a) k vs) (omega arith)

-- a loop that stores f at one place after the other: after the store at place i + m there are m + 1 of them
pub sets-turn : (l : List ℕ) (i m v : ℕ) (f : ℕ → ℕ) → v ≡ f m → set (sets l i (tab m f)) (i + m) v ≡ sets l i (tab (m + 1) f)
sets-turn l i m v f e =
    ap (λ (k : ℕ). set (sets l i (tab m f)) k v) (ap (λ (k : ℕ). i + k) (sym (length-tab m f)))
    ∙ sets_then l i (tab m f) (v ∷ [])
    ∙ ap (sets l i) (ap (λ (w : ℕ). tab m f ++ (w ∷ [])) e ∙ sym (tab-last m f) ∙ ap (λ (k : ℕ). tab k f) (sym (add-one m)))

-- the same from the list's front on
pub front-turn : (l xs : List ℕ) (m v : ℕ) (f : ℕ → ℕ) → xs ≡ sets l 0 (tab m f) → v ≡ f m → set xs m v ≡ sets l 0 (tab (m + 1) f)
front-turn l xs m v f h e =
    ap (λ (r : List ℕ). set r m v) h
    ∙ ap (λ (k : ℕ). set (sets l 0 (tab m f)) k v) (sym (zero-add m))
    ∙ sets-turn l 0 m v f e

-- what stands before the stores and behind them, and in them where they fit
pub get-before : (l : List ℕ) (i : ℕ) (vs : List ℕ) (k : ℕ) → k < i → get_or (sets l i vs) k 0 ≡ get_or l k 0
get-before l i [] k h = refl
get-before l i (a ∷ vs) k h = get-before (set l i a) (suc i) vs k (omega arith) ∙ get_or-set_other l i k a 0 (omega arith)

pub get-behind : (l : List ℕ) (i : ℕ) (vs : List ℕ) (k : ℕ) → i + length vs ≤ k → get_or (sets l i vs) k 0 ≡ get_or l k 0
get-behind l i [] k h = refl
get-behind l i (a ∷ vs) k h = get-behind (set l i a) (suc i) vs k (omega arith) ∙ get_or-set_other l i k a 0 (omega arith)

pub get-within : (l : List ℕ) (i : ℕ) (vs : List ℕ) (k : ℕ) → i + length vs ≤ length l → k < length vs → get_or (sets l i vs) (i + k) 0 ≡ get_or vs k 0
get-within l i [] k h lt = absurd (omega arith)
get-within l i (a ∷ vs) zero h lt =
    let same : i + 0 ≡ i = omega arith in
    rw same (get-before (set l i a) (suc i) vs i (omega arith) ∙ get_or-set_same l i a 0 (omega arith))
get-within l i (a ∷ vs) (suc k) h lt =
    let next : i + suc k ≡ suc i + k = omega arith in
    rw next (get-within (set l i a) (suc i) vs k (omega (arith, length-set l i a)) (omega arith))

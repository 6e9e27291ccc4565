-- Lists one behind the other. Assumes nothing.
use mathlib.Core.Path.{◌≡◌, refl, sym, ap, ◌∙◌}
use mathlib.Core.List.{List, [], ◌∷◌, ◌++◌, append_assoc, append-nil, foldl}
use Rattle.lists.specs.Lists.{joined}

-- one more list
pub joined-more : {A : Type 0} (ls : List (List A)) (l : List A) → joined (ls ++ (l ∷ [])) ≡ joined ls ++ l
unfolding joined
joined-more [] l = append-nil l
joined-more {A = A} (k ∷ ls) l = ap (λ (s : List A). k ++ s) (joined-more ls l) ∙ sym (append_assoc k (joined ls) l)

-- a fold over one more
pub foldl-more : {A B : Type 0} (f : B → A → B) (x : B) (ls : List A) (l : A) → foldl f x (ls ++ (l ∷ [])) ≡ f (foldl f x ls) l
foldl-more f x [] l = refl
foldl-more f x (k ∷ ls) l = foldl-more f (f x k) ls l

-- What a width's sum has to do with what is added at one place of a run: the law of the trait `Width`.
use Rattle.std.specs.Prelude.{◌≡◌, List, ℕ, ◌+◌, ◌<◌, ◌≤◌, min, length, get_or, set}
use Rattle.std.proofs.Common.{sym, ap, ◌∙◌}
use Rattle.std.proofs.Math.Seq.{set_out}
use Rattle.std.proofs.lemmas.List.{get_or_default}
use Rattle.lists.specs.Adding.{add_at}

-- what is added at a place is the sum with what stands there, and nothing where there is no such place
pub record Adds {A : Type 0} (sum : A → A → A) (added : List A → ℕ → A → List A) : Type 0 where
  pub inside : (a : List A) (k : ℕ) (v x : A) → k < length a → x ≡ get_or a k x → added a k v ≡ set a k (sum x v)
  pub past : (a : List A) (k : ℕ) (v : A) → length a ≤ k → added a k v ≡ a

-- numbers held to `most`
pub adds_at : (most : ℕ) → Adds (λ x y. min (x + y) most) (add_at most)
unfolding add_at
adds_at most = record {
  inside = λ a k v x h e. ap (λ y. set a k (min (y + v) most)) (get_or_default a k 0 x h ∙ sym e);
  past = λ a k v h. set_out a k _ h;
}

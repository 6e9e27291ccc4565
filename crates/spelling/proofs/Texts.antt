-- The texts of numbers, by the tests of the code, and the line of a call, one number at a time. Assumes nothing.
use mathlib.Core.Path.{◌≡◌, refl, sym, ap, ◌∙◌}
use mathlib.Core.List.{List, [], ◌∷◌, ◌++◌}
use Prim.Native.Nat.{ℕ, zero, suc, ◌+◌, ◌-◌, ◌/◌, ◌≤◌, ◌<◌}
use native.Mathlib.Numerals.{add-one}
use native.Mathlib.Omega.{arith}
use lib.ListN.{length, get_or, take, drop, length-append}
use lib.Seq.{drop-cons, drop-length}
use borrow.Author.Tests.{lt-ltb, le-ltb, le-leb, lt-leb, eq-eqb, ne_eqb}
use Rattle.sets.specs.Set.{members}
use Rattle.machine.specs.Printed.{decimal}
use Rattle.lines.proofs.Decimals.{decimal-le}
use Rattle.wire.specs.Asked.{asked}
use Rattle.wire.specs.declared.Call.{Call}
use Rattle.wire.specs.declared.Call.TheVariants.{Head as HeadCall, Pool, Member, Round, Bid, Close, Allocate, Tear, Call as CallCall, Pay, Move, Miss, Finish, Sale, Withdraw, Unknown}
use Rattle.forms.specs.declared.Tagged.{Tagged}
use Rattle.forms.specs.Forms.{form_of, flattened}
use Rattle.forms.specs.Put.{Put, Written}
use Rattle.forms.proofs.Values.{flat-form, round-tag}
use Rattle.spelling.specs.Text.{money_text, price_text, members_text, more_text, number_text, item_text, items_text, line_text, line_form, key_into}
use Rattle.spelling.specs.Words.{key_of, separator}

module _ (p : ℕ) where
  pub price-low : p < 1000000 → 45 ∷ money_text (1000000 - p) ≡ price_text p
  unfolding price_text
  price-low h = rw (lt-ltb p 1000000 h)

  pub price-mid : 1000000 ≤ p → p < 2148483648 → money_text (p - 1000000) ≡ price_text p
  unfolding price_text
  price-mid l h = rw (le-ltb p 1000000 l, lt-ltb p 2148483648 h)

  pub price-high : 1000000 ≤ p → 2148483648 ≤ p → 45 ∷ money_text (4295967296 - p) ≡ price_text p
  unfolding price_text
  price-high l h = rw (le-ltb p 1000000 l, le-ltb p 2148483648 h)

-- the members of a set, the next first
pub more-next : (left m left' : ℕ) → members left ≡ m ∷ members left' → more_text (members left) ≡ (44 ∷ decimal 20 m) ++ more_text (members left')
unfolding more_text
more-next left m left' e = ap more_text e

pub more-none : (left : ℕ) → members left ≡ [] → more_text (members left) ≡ []
unfolding more_text
more-none left e = ap more_text e

pub members-next : (left m left' : ℕ) → members left ≡ m ∷ members left' → decimal 20 m ++ more_text (members left') ≡ members_text (members left)
unfolding members_text
members-next left m left' e = ap members_text (sym e)

pub members-none : (left : ℕ) → members left ≡ [] → 45 ∷ [] ≡ members_text (members left)
unfolding members_text
members-none left e = ap members_text (sym e)

module _ (kind n : ℕ) where
  pub number-low : kind < 3 → decimal 20 n ≡ number_text kind n
  unfolding number_text
  number-low h = rw (lt-ltb kind 3 h)

  pub number-set : kind ≡ 3 → members_text (members n) ≡ number_text kind n
  unfolding number_text
  number-set h = rw (le-ltb kind 3 (omega arith), eq-eqb kind 3 h)

  pub number-money : kind ≡ 4 → money_text n ≡ number_text kind n
  unfolding number_text
  number-money h = rw (le-ltb kind 3 (omega arith), ne_eqb kind 3 (λ e. omega arith), eq-eqb kind 4 h)

  pub number-price : 3 ≤ kind → (kind ≡ 3 → ⊥) → (kind ≡ 4 → ⊥) → price_text n ≡ number_text kind n
  unfolding number_text
  number-price h s m = rw (le-ltb kind 3 h, ne_eqb kind 3 s, ne_eqb kind 4 m)

-- ---- a line

pub items-next : (tag i : ℕ) (xs : List ℕ) → i < length xs
    → items_text tag i (drop i xs) ≡ item_text tag i (get_or xs i 0) ++ items_text tag (i + 1) (drop (i + 1) xs)
unfolding items_text
items-next tag i xs lt = rw (add-one i) (ap (items_text tag i) (drop-cons xs i 0 lt))

pub items-none : (tag i : ℕ) (xs : List ℕ) → i ≡ length xs → 10 ∷ [] ≡ items_text tag i (drop i xs)
unfolding items_text
items-none tag i xs e = ap (items_text tag i) (sym (ap (λ (j : ℕ). drop j xs) e ∙ drop-length xs))

form-some : (tag : ℕ) (ns : List ℕ) → (tag ≡ 0 → ⊥) → line_form (tag, ns) ≡ line_text tag ns
unfolding line_form
form-some zero ns h = absurd (h refl)
form-some (suc t) ns h = refl

-- the tag is one of the calls'
pub tag_small : (call : Call) → (flattened call).tag < 16
unfolding flattened
tag_small (HeadCall h) = omega arith
tag_small (Pool pool units mark) = omega arith
tag_small (Member m contribution a b c d) = omega arith
tag_small (Round n a b c d) = omega (arith, round-tag n a b c d)
tag_small (Bid pool m units price) = omega arith
tag_small Close = omega arith
tag_small (Allocate pool price) = omega arith
tag_small (Tear pool price) = omega arith
tag_small CallCall = omega arith
tag_small (Pay m amount) = omega arith
tag_small (Move m) = omega arith
tag_small (Miss m price) = omega arith
tag_small Finish = omega arith
tag_small (Sale pool m price) = omega arith
tag_small (Withdraw m n) = omega arith
tag_small Unknown = omega arith

-- the line of a call by its tag and its numbers
module _ (call : Call) (f : Tagged) (e : f ≡ flattened call) where
  line : line_form (form_of (asked call)) ≡ line_form (f.tag, take f.count f.numbers)
  line = ap line_form (flat-form call) ∙ ap (λ (g : Tagged). line_form (g.tag, take g.count g.numbers)) (sym e)

  pub line-none : f.tag ≡ 0 → [] ≡ line_form (form_of (asked call))
  unfolding line_form
  line-none z = sym (line ∙ ap (λ (t : ℕ). line_form (t, take f.count f.numbers)) z)

  pub line-some : (f.tag ≡ 0 → ⊥) → line_text f.tag (take f.count f.numbers) ≡ line_form (form_of (asked call))
  line-some z = sym (line ∙ form-some f.tag (take f.count f.numbers) z)

-- ---- what stands before a number

module _ (tag i : ℕ) (out : List ℕ) where
  pub key-short : length out < 16 → key_into tag i out ≡ (0, out)
  unfolding key_into
  key-short h = rw (lt-ltb (length out) 16 h)

  pub key-no-call : 16 ≤ length out → 16 ≤ tag → key_into tag i out ≡ (0, out)
  unfolding key_into
  key-no-call h t = rw (le-ltb (length out) 16 h, le-leb 16 tag t)

  pub key-no-number : 16 ≤ length out → tag < 16 → 8 ≤ i → key_into tag i out ≡ (0, out)
  unfolding key_into
  key-no-number h t l = rw (le-ltb (length out) 16 h, lt-leb 16 tag t, le-leb 8 i l)

  pub key-put : (r : ℕ) (new : List ℕ) → 16 ≤ length out → tag < 16 → i < 8 → Put out 0 (separator (key_of tag i)) 16 r new
      → ◌≡◌ {A = Written} (r, new) (key_into tag i out)
  unfolding key_into
  key-put r new h t l p =
      let e : r ≡ length (separator (key_of tag i)) = omega (arith, p.behind) in
      rw (le-ltb (length out) 16 h, lt-leb 16 tag t, lt-leb 8 i l) (λ k. (e k, p.stored k))

-- at most 20 digits stand before the point
pub money-short : (n : ℕ) → length (money_text n) ≤ 23
unfolding money_text
money-short n = simp length-append (omega (arith, decimal-le 20 (n / 100)))

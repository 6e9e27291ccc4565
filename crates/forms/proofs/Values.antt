-- The value of a call, one number at a time, and its bytes by the tests of the code. Assumes nothing.
use Rattle.std.proofs.Common.{◌≡◌, ℕ, zero, suc, ◌+◌, ◌-◌, ◌/◌, ◌%◌, ◌<◌, ◌≤◌, Bool, true, false, nat_lt, nat_eq, leb, List, [], ◌∷◌, ◌++◌, length, get_or, take, drop, sym, refl, ap, ◌∙◌, add-one, arith, drop-cons, leb-true}
use lib.Seq.{drop-length}
use Rattle.lists.specs.Lists.{when◌then◌else◌, between}
use Rattle.lists.proofs.Bools.{cases, either, and_right}
use Rattle.wire.specs.Asked.{asked}
use Rattle.wire.specs.declared.Call.{Call}
use Rattle.wire.specs.declared.Call.TheVariants.{Head as HeadCall, Pool, Member, Round, Bid, Close, Allocate, Tear, Call as CallCall, Pay, Move, Miss, Finish, Sale, Withdraw, Unknown}
use Rattle.forms.specs.declared.Tagged.{Tagged}
use Rattle.forms.specs.Forms.{kind_of, form_of, tag_of, numbers_of, flat_round, flattened}
use Rattle.forms.specs.Encode.{bytes_of, width_of, raw_of, field_bytes, value_from, tagged, encode_form}

pub value-next : (tag i : ℕ) (xs : List ℕ) → i < length xs
    → value_from tag i (drop i xs) ≡ field_bytes (kind_of tag i) (get_or xs i 0) ++ value_from tag (i + 1) (drop (i + 1) xs)
unfolding value_from
value-next tag i xs lt = rw (add-one i) (ap (value_from tag i) (drop-cons xs i 0 lt))

pub value_none : (tag i : ℕ) (xs : List ℕ) → i ≡ length xs → value_from tag i (drop i xs) ≡ []
unfolding value_from
value_none tag i xs e = ap (value_from tag i) (ap (λ (j : ℕ). drop j xs) e ∙ drop-length xs)

-- a number in four bytes, as the library has them
abbrev pub four : ℕ → List ℕ
four n = (n / 16777216 % 256) ∷ (n / 65536 % 256) ∷ (n / 256 % 256) ∷ (n % 256) ∷ []

pub four-is : (n : ℕ) → four n ≡ bytes_of 4 n
unfolding bytes_of
four-is n =
    let a : n / 16777216 ≡ n / 256 / 256 / 256 = omega arith in
    let b : n / 65536 ≡ n / 256 / 256 = omega arith in
    rw (a, b) refl

-- the last bytes of four are the bytes of the kind
pub field-is : (kind n x w : ℕ) (bytes : List ℕ) → x ≡ raw_of kind n → bytes ≡ four x → w ≡ width_of kind
    → take (4 - (4 - w)) (drop (4 - w) bytes) ≡ field_bytes kind n
unfolding field_bytes width_of bytes_of
field-is kind n x w bytes e f g = rw (g, f, ← e) (go (nat_lt kind 2) (nat_eq kind 2))
  where
    go : (a b : Bool)
        → let w : ℕ = when a then 1 else when b then 2 else 4 in
        take (4 - (4 - w)) (drop (4 - w) (four x)) ≡ bytes_of w x
    go true b = refl
    go false true = refl
    go false false = four-is x

pub form-some : (tag : ℕ) (ns : List ℕ) → (tag ≡ 0 → ⊥) → encode_form (tag, ns) ≡ tagged tag (value_from tag 0 ns)
unfolding encode_form
form-some zero ns h = absurd (h refl)
form-some (suc t) ns h = refl

-- ---- a call of the program

first-four : (n a b c d : ℕ) → n ≤ 4 → take n (a ∷ b ∷ c ∷ d ∷ []) ≡ take n (a ∷ b ∷ c ∷ d ∷ 0 ∷ 0 ∷ 0 ∷ 0 ∷ [])
first-four zero a b c d l = refl
first-four (suc zero) a b c d l = refl
first-four (suc (suc zero)) a b c d l = refl
first-four (suc (suc (suc zero))) a b c d l = refl
first-four (suc (suc (suc (suc zero)))) a b c d l = refl
first-four (suc (suc (suc (suc (suc n))))) a b c d l = absurd (omega arith)

round-form : (n a b c d : ℕ) → form_of (asked (Round n a b c d)) ≡ ((flat_round n a b c d).tag, take (flat_round n a b c d).count (flat_round n a b c d).numbers)
unfolding asked form_of tag_of numbers_of flat_round
round-form n a b c d =
    cases (between 1 4 n) _
    (λ t. rw t (ap (λ (l : List ℕ). (4, l)) (first-four n a b c d (leb-true n 4 (and_right (leb 1 n) (leb n 4) t)))))
    (λ t. rw t)

round-few : (n a b c d : ℕ) → (flat_round n a b c d).count ≤ 8
unfolding flat_round
round-few n a b c d = cases (between 1 4 n) _ (λ t. rw t (omega (arith, leb-true n 4 (and_right (leb 1 n) (leb n 4) t)))) (λ t. rw t (omega arith))

pub round-tag : (n a b c d : ℕ) → (flat_round n a b c d).tag ≤ 4
unfolding flat_round
round-tag n a b c d = either (λ (x : Tagged). x.tag ≤ 4) (between 1 4 n) (omega arith) (omega arith)

-- its tag and numbers are those of the call that is asked for
pub flat-form : (call : Call) → form_of (asked call) ≡ ((flattened call).tag, take (flattened call).count (flattened call).numbers)
unfolding asked form_of tag_of numbers_of flattened
flat-form (HeadCall h) = refl
flat-form (Pool pool units mark) = refl
flat-form (Member m contribution a b c d) = refl
flat-form (Round n a b c d) = round-form n a b c d
flat-form (Bid pool m units price) = refl
flat-form Close = refl
flat-form (Allocate pool price) = refl
flat-form (Tear pool price) = refl
flat-form CallCall = refl
flat-form (Pay m amount) = refl
flat-form (Move m) = refl
flat-form (Miss m price) = refl
flat-form Finish = refl
flat-form (Sale pool m price) = refl
flat-form (Withdraw m n) = refl
flat-form Unknown = refl

-- it has at most eight numbers
pub flat-few : (call : Call) → (flattened call).count ≤ 8
unfolding flattened
flat-few (HeadCall h) = omega arith
flat-few (Pool pool units mark) = omega arith
flat-few (Member m contribution a b c d) = omega arith
flat-few (Round n a b c d) = round-few n a b c d
flat-few (Bid pool m units price) = omega arith
flat-few Close = omega arith
flat-few (Allocate pool price) = omega arith
flat-few (Tear pool price) = omega arith
flat-few CallCall = omega arith
flat-few (Pay m amount) = omega arith
flat-few (Move m) = omega arith
flat-few (Miss m price) = omega arith
flat-few Finish = omega arith
flat-few (Sale pool m price) = omega arith
flat-few (Withdraw m n) = omega arith
flat-few Unknown = omega arith

-- the bytes of a call by its tag and its numbers
module _ (call : Call) (f : Tagged) (e : f ≡ flattened call) where
  encoded : encode_form (form_of (asked call)) ≡ encode_form (f.tag, take f.count f.numbers)
  encoded = ap encode_form (flat-form call) ∙ ap (λ (g : Tagged). encode_form (g.tag, take g.count g.numbers)) (sym e)

  pub encoded-none : f.tag ≡ 0 → [] ≡ encode_form (form_of (asked call))
  unfolding encode_form
  encoded-none z = sym (encoded ∙ ap (λ (t : ℕ). encode_form (t, take f.count f.numbers)) z)

  pub encoded-some : (f.tag ≡ 0 → ⊥) → tagged f.tag (value_from f.tag 0 (take f.count f.numbers)) ≡ encode_form (form_of (asked call))
  encoded-some z = sym (encoded ∙ form-some f.tag (take f.count f.numbers) z)

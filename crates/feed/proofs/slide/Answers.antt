-- `feed::slide` meets its contract. Assumes nothing.
use native.Mathlib.Omega.{arith}
use mathlib.Core.Path.{◌≡◌, refl, sym, ap, ◌∙◌}
use mathlib.Core.List.{List, ◌++◌}
use native.Mathlib.Numerals.{add-one}
use Prim.Native.Nat.{ℕ, suc, ◌+◌, ◌-◌, ◌≤◌, ◌<◌}
use lib.ListN.{length, take, drop, set, get_or, length-set, length-drop}
use lib.Seq.{length-take-le, take-suc, drop-cons, append_snoc, set_at, drop_at, get_or-drop}
use Rattle.feed.proofs.slide.Invariants.{moved}
use Rattle.feed.proofs.slide.Goals as goal

-- what stands behind the bytes that are moved is not yet overwritten
unread : (old part : List ℕ) (i k : ℕ) → i ≤ k → i ≤ length part → get_or (moved old part i) k 0 ≡ get_or old k 0
unread old part i k h l =
    let e : k ≡ i + (k - i) = omega arith in
    ap (λ (n : ℕ). get_or (moved old part i) n 0) e
    ∙ sym (get_or-drop i (moved old part i) (k - i) 0)
    ∙ ap (λ (d : List ℕ). get_or d (k - i) 0) (drop_at (take i part) (drop i old) i (length-take-le i part l))
    ∙ get_or-drop i old (k - i) 0
    ∙ sym (ap (λ (n : ℕ). get_or old n 0) e)

-- one more byte
next : (old part : List ℕ) (i : ℕ) → i < length old → i < length part → set (moved old part i) i (get_or part i 0) ≡ moved old part (i + 1)
next old part i h l =
    ap (λ (r : List ℕ). set (take i part ++ r) i (get_or part i 0)) (drop-cons old i 0 h)
    ∙ set_at (take i part) (get_or old i 0) (drop (suc i) old) (get_or part i 0) i (length-take-le i part (omega arith))
    ∙ sym (append_snoc (take i part) (get_or part i 0) (drop (suc i) old))
    ∙ ap (λ (r : List ℕ). r ++ drop (suc i) old) (sym (take-suc part i 0 l))
    ∙ ap (λ (n : ℕ). moved old part n) (sym (add-one i))

pub returns-then-buf-end : goal.returns-then-buf-end
returns-then-buf-end c = record { moved = λ h k. absurd (omega arith); len = λ h k. absurd (omega arith); most = omega arith }

pub returns-then-end-start : goal.returns-then-end-start
returns-then-end-start c = record { moved = λ h k. absurd (omega arith); len = λ h k. absurd (omega arith); most = omega arith }

pub loop-i-init : goal.loop-i-init
loop-i-init c = (refl, refl)

pub loop-i-preserved : goal.loop-i-preserved
loop-i-preserved c =
    let l = c.loop-i in
    let a = c.args in
    let old = a.buf.now in
    let part = drop a.start old in
    let room : l.i < length part = omega (arith, length-drop a.start old) in
    let same : get_or l.buf (a.start + l.i) 0 ≡ get_or part l.i 0 =
    ap (λ (d : List ℕ). get_or d (a.start + l.i) 0) l.invariant.1 ∙ unread old part l.i (a.start + l.i) (omega arith) (omega arith) ∙ sym (get_or-drop a.start old l.i 0) in (
      simp length-set l.invariant.0,
      ap (λ (x : ℕ). set l.buf l.i x) same
          ∙ ap (λ (d : List ℕ). set d l.i (get_or part l.i 0)) l.invariant.1
          ∙ next old part l.i (omega arith) room,
    )

pub returns : goal.returns
returns c =
    let l = c.loop-i in
    let a = c.args in
    let all : l.i ≡ a.end - a.start = omega arith in
    record { moved = λ h k. l.invariant.1 ∙ ap (moved a.buf.now (drop a.start a.buf.now)) all; len = λ h k. refl; most = omega arith }

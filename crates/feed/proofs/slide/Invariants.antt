-- `feed::slide` meets its contract. Assumes nothing.
use mathlib.Core.Path.{◌≡◌}
use mathlib.Core.List.{List, ◌++◌}
use Prim.Native.Nat.{ℕ}
use lib.ListN.{length, take, drop}
use Rattle.feed.proofs.slide.Given as goal

-- the first i bytes of a part at the front
abbrev pub moved : List ℕ → List ℕ → ℕ → List ℕ
moved old part i = take i part ++ drop i old

abbrev pub invariant-loop-i : goal.invariant-loop-i
invariant-loop-i l = (length l.buf ≡ length l.initial.buf) × (l.buf ≡ moved l.initial.buf (drop l.start l.initial.buf) l.i)

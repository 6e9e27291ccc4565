-- One turn over the bytes in a buffer, and what holds after each. Assumes nothing.
use mathlib.Core.Path.{◌≡◌, refl, ap, subst}
use mathlib.Core.Bool.{Bool, false}
use mathlib.Core.List.{List, []}
use Prim.Native.Nat.{ℕ, ◌≤◌}
use native.Mathlib.Omega.{arith}
use lib.ListN.{length, take, drop}
use lib.Seq.{length-take-le}
use Rattle.input.specs.Strings.{bytes_of}
use Rattle.input.specs.Pieces.{pieces, left_of}
use Rattle.feed.specs.Feeds.{Slides, Keeps, Fed}
use Rattle.feed.proofs.Turning.{keeps, fed-none}
use Rattle.translation.specs.Writes.{WritesAll}

module _ (size : List ℕ → ℕ) (most : (s : List ℕ) → size s ≤ length s) where
  -- a turn in which no write failed: what is left of the bytes is moved to the front
  pub turn-keeps : (buf buf' part : List ℕ) (end used n : ℕ) (failed : Bool) → end ≤ length buf → part ≡ take end buf → WritesAll size part used failed
      → Slides used end buf buf' n → failed ≡ false → Keeps (left_of size) (take end buf) buf buf' n
  turn-keeps buf buf' part end used n failed inside lends wrote slid good =
      let w : WritesAll size (take end buf) used failed = subst (λ (s : List ℕ). WritesAll size s used failed) lends wrote in
      keeps (left_of size) buf buf' used end n inside (omega (arith, w.within, length-take-le end buf inside))
      (ap (λ (k : ℕ). drop k (take end buf)) (w.all good)) slid

  -- nothing is read yet
  pub fed-first : (Taken : List ℕ → Type 0) (buf : List ℕ) → Taken [] → Fed (left_of size) Taken buf 0
  unfolding bytes_of pieces
  fed-first Taken buf t = fed-none (left_of size) Taken buf refl t

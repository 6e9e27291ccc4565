-- A text copied into a part of a buffer. Assumes nothing.
use Rattle.std.proofs.Common.{◌≡◌, ℕ, ◌+◌, ◌-◌, ◌≤◌, List, ◌++◌, length, take, sym, ap, ◌∙◌, append_assoc, arith, drop-drop}
use borrow.Rule.Slice.PartMut.{put_mid}
use Rattle.std.proofs.lemmas.List.Edits.{sets, sets-eq}

pub copied : (text old part : List ℕ) (at : ℕ) → at + length text ≤ length old → part ≡ text → put_mid at (at + length text - at) old part ≡ sets old at text
copied text old part at h e =
    let k : at + length text - at ≡ length text = omega arith in
    rw (k, e) (ap (λ (r : List ℕ). take at old ++ (text ++ r)) (drop-drop (length text) at old) ∙ sym (append_assoc (take at old) text _) ∙ sym (sets-eq text old at h))

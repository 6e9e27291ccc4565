-- The kind of a call's number, by the tests of the code. Assumes nothing.
use Rattle.std.proofs.Common.{◌≡◌, ℕ, ◌+◌, ◌*◌, ◌<◌, ◌≤◌, get_or, le-ltb, lt-ltb}
use Rattle.forms.specs.Forms.{kinds, kind_of}

pub kind-high : (tag i : ℕ) → 16 ≤ tag → kind_of tag i ≡ 0
unfolding kind_of
kind-high tag i h = rw (le-ltb tag 16 h)

pub kind-past : (tag i : ℕ) → tag < 16 → 8 ≤ i → kind_of tag i ≡ 0
unfolding kind_of
kind-past tag i l h = rw (lt-ltb tag 16 l, le-ltb i 8 h)

pub kind-in : (tag i : ℕ) → tag < 16 → i < 8 → kind_of tag i ≡ get_or kinds (tag * 8 + i) 0
unfolding kind_of
kind-in tag i l h = rw (lt-ltb tag 16 l, lt-ltb i 8 h)

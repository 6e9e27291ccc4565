-- `to_text::next_size` meets its contract. Assumes nothing.
use Rattle.to_text.proofs.Sizes.{size_small, size-there, size-not}
use Rattle.to_text.proofs.next_size.Goals as goal

pub returns-then-room-lt-LINE : goal.returns-then-room-lt-LINE
returns-then-room-lt-LINE c = size_small _ _ c.if-room-lt-LINE.true

pub returns-then-size-room : goal.returns-then-size-room
returns-then-size-room c = size-there _ _ _ c.if-room-lt-LINE.false c.front_size-size.ensures c.if-size-room.true

pub returns-else-size-room : goal.returns-else-size-room
returns-else-size-room c = size-not _ _ _ c.if-room-lt-LINE.false c.front_size-size.ensures c.if-size-room.false

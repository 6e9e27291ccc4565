-- Where the calls are bytes, the member set is one of 32 bits, so that no member is above 31. (All other claims hold of any numbers in the place of bytes.)
-- Assumes nothing.
use mathlib.Core.Path.{◌≡◌}
use mathlib.Core.Bool.{◌&&◌}
use mathlib.Core.List.{List, [], ◌∷◌}
use mathlib.Core.Option.{Option, none, some}
use Prim.Native.Nat.{ℕ, ◌+◌, ◌*◌, ◌^◌, ◌<◌}
use native.Mathlib.Omega.{arith}
use lib.Dec.{eqb}
use lib.ListN.{length, take, drop}
use Rattle.lists.specs.Lists.{between}
use Rattle.lists.proofs.Bools.{either}
use Rattle.lists.proofs.Each.{Each, each-drop}
use Rattle.machine.specs.Wire.{Call, HEAD, POOL, MEMBER, ROUND, BID, CLOSE, ALLOCATE, TEAR, CALL, PAY, MOVE, MISS, FINISH, SALE, WITHDRAW, big_endian, number, right_length, call_of, decode}
use Rattle.machine.specs.State.{Case, State, the_case}
use Rattle.machine.specs.Calls.{accepted, after_pool, after_member, after_round, after_bid, after_close, after_allocate, after_tear, after_call, after_pay, after_move, after_miss, after_sale, after_withdraw}
use Rattle.machine.specs.Machine.{step}
use Rattle.machine.specs.Run.{run_from}
use Rattle.machine.proofs.Answers.{step-cases}

abbrev pub Byte : ℕ → Type 0
Byte b = b < 256

abbrev pub Bytes : List (List ℕ) → Type 0
Bytes calls = Each (Each Byte) calls

pub four_bytes : (s : List ℕ) → Each Byte s → big_endian 0 (take 4 s) < 2 ^ 32
unfolding big_endian
four_bytes [] h = omega arith
four_bytes (a ∷ []) h = omega (arith, h.0)
four_bytes (a ∷ b ∷ []) h = omega (arith, h.0, h.1.0)
four_bytes (a ∷ b ∷ c ∷ []) h = omega (arith, h.0, h.1.0, h.1.1.0)
four_bytes (a ∷ b ∷ c ∷ d ∷ s) h = omega (arith, h.0, h.1.0, h.1.1.0, h.1.1.1.0)

-- a HEAD has a set of 32 bits
abbrev Small : Call → Type 0
Small (HEAD h) = h.set < 2 ^ 32
Small (POOL pool units mark) = Unit {0}
Small (MEMBER m contribution expected) = Unit {0}
Small (ROUND reserves) = Unit {0}
Small (BID pool m units price) = Unit {0}
Small CLOSE = Unit {0}
Small (ALLOCATE pool price) = Unit {0}
Small (TEAR pool price) = Unit {0}
Small CALL = Unit {0}
Small (PAY m amount) = Unit {0}
Small (MOVE m) = Unit {0}
Small (MISS m price) = Unit {0}
Small FINISH = Unit {0}
Small (SALE pool m price) = Unit {0}
Small (WITHDRAW m n) = Unit {0}

call-small : (tag : ℕ) (v : List ℕ) → Each Byte v → Small (call_of tag v)
unfolding call_of number
call-small tag v h =
    either Small (eqb tag 1) (four_bytes (drop 3 v) (each-drop Byte 3 v h))
    (either Small (eqb tag 2) tt
    (either Small (eqb tag 3) tt
    (either Small (eqb tag 4) tt
    (either Small (eqb tag 5) tt
    (either Small (eqb tag 6) tt
    (either Small (eqb tag 7) tt
    (either Small (eqb tag 8) tt
    (either Small (eqb tag 9) tt
    (either Small (eqb tag 10) tt
    (either Small (eqb tag 11) tt
    (either Small (eqb tag 12) tt
    (either Small (eqb tag 13) tt
    (either Small (eqb tag 14) tt tt)))))))))))))

abbrev AllSmall : Option Call → Type 0
AllSmall none = Unit {0}
AllSmall (some call) = Small call

decoded-small : (bytes : List ℕ) → Each Byte bytes → AllSmall (decode bytes)
unfolding decode
decoded-small [] h = tt
decoded-small (tag ∷ []) h = tt
decoded-small (tag ∷ high ∷ []) h = tt
decoded-small (tag ∷ high ∷ low ∷ v) h =
    either AllSmall (between 1 15 tag && eqb (high * 256 + low) (length v) && right_length tag (length v)) {x = some (call_of tag v)} {y = none}
    (call-small tag v h.1.1.1) tt

abbrev SetOk : State → Type 0
SetOk none = Unit {0}
SetOk (some c) = c.head.set < 2 ^ 32

-- only HEAD sets the member set
set-call : (c : Case) (call : Call) → Small call → c.head.set < 2 ^ 32 → (accepted c call).head.set < 2 ^ 32
unfolding accepted after_pool after_member after_round after_bid after_close after_allocate after_tear after_call after_pay after_move after_miss after_sale after_withdraw
set-call c (HEAD h) s o = s
set-call c (POOL pool units mark) s o = o
set-call c (MEMBER m contribution expected) s o = o
set-call c (ROUND reserves) s o = o
set-call c (BID pool m units price) s o = o
set-call c CLOSE s o = o
set-call c (ALLOCATE pool price) s o = o
set-call c (TEAR pool price) s o = o
set-call c CALL s o = o
set-call c (PAY m amount) s o = o
set-call c (MOVE m) s o = o
set-call c (MISS m price) s o = o
set-call c FINISH s o = o
set-call c (SALE pool m price) s o = o
set-call c (WITHDRAW m n) s o = o

the-set : (s : State) → SetOk s → (the_case s).head.set < 2 ^ 32
the-set none o = omega arith
the-set (some c) o = o

set-step : (s : State) → SetOk s → (bytes : List ℕ) → Each Byte bytes → SetOk (step s bytes).state
set-step s o bytes h =
    step-cases (λ n. SetOk) s bytes (λ n r. o)
    (λ call e t. set-call (the_case s) call (rw e at (decoded-small bytes h)) (the-set s o))

set-run : (s : State) → SetOk s → (calls : List (List ℕ)) → Bytes calls → SetOk (run_from s calls)
unfolding run_from
set-run s o [] h = o
set-run s o (bytes ∷ rest) h = set-run (step s bytes).state (set-step s o bytes h.0) rest h.1

pub set-fits : (calls : List (List ℕ)) → Bytes calls → (c : Case) → run_from none calls ≡ some c → c.head.set < 2 ^ 32
set-fits calls h c e = rw e at (set-run none tt calls h)

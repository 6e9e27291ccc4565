-- What a value of `Call` asks for: a call of document 01, SALE or WITHDRAW, or none where the bytes are no call.
use Rattle.std.specs.Prelude.{[], ◌∷◌, take}
use Rattle.std.proofs.Math.Option.{Option, none, some}
use Rattle.lists.specs.Lists.{when◌then◌else◌, between}
use Rattle.machine.specs.Wire as Wire
use Rattle.wire.specs.declared.Head.{Head}
use Rattle.wire.specs.declared.Call.{Call}
use Rattle.wire.specs.declared.Call.TheVariants.{Head as HeadCall, Pool, Member, Round, Bid, Close, Allocate, Tear, Call as CallCall, Pay, Move, Miss, Finish, Sale, Withdraw, Unknown}

-- the numbers of HEAD
abbrev pub head_of : Head → Wire.Head
head_of h =
    record {
      pools = h.pools;
      least_bid = h.least;
      set = h.set;
      hedge_loss = h.hedge;
      other_loss = h.other;
      margin = h.margin;
      fund = h.fund;
      house = h.house;
    }

-- the call that is asked for. ROUND has one to four reserves; prices and reserves are held as cents + 1,000,000
unfoldable pub asked : Call → Option Wire.Call
asked (HeadCall h) = some (Wire.HEAD (head_of h))
asked (Pool pool units mark) = some (Wire.POOL pool units mark)
asked (Member m contribution a b c d) = some (Wire.MEMBER m contribution (a ∷ b ∷ c ∷ d ∷ []))
asked (Round n a b c d) = when between 1 4 n then some (Wire.ROUND (take n (a ∷ b ∷ c ∷ d ∷ []))) else none
asked (Bid pool m units price) = some (Wire.BID pool m units price)
asked Close = some Wire.CLOSE
asked (Allocate pool price) = some (Wire.ALLOCATE pool price)
asked (Tear pool price) = some (Wire.TEAR pool price)
asked CallCall = some Wire.CALL
asked (Pay m amount) = some (Wire.PAY m amount)
asked (Move m) = some (Wire.MOVE m)
asked (Miss m price) = some (Wire.MISS m price)
asked Finish = some Wire.FINISH
asked (Sale pool m price) = some (Wire.SALE pool m price)
asked (Withdraw m n) = some (Wire.WITHDRAW m n)
asked Unknown = none

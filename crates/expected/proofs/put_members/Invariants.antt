-- `expected::put_members` meets its contract. The invariant: the lines of the places passed are written. Assumes nothing.
use Rattle.std.proofs.Common.{◌*◌, get_or}
use Rattle.lists.specs.Lists.{tab, joined}
use Rattle.forms.specs.Put.{Put}
use Rattle.expected.specs.Shares.{place_text}
use Rattle.expected.proofs.put_members.Given as goal

abbrev pub invariant-loop-m : goal.invariant-loop-m
invariant-loop-m l =
    Put l.initial.out 0 (joined (tab l.m (λ k. place_text l.set k (get_or l.shares k 0)))) (l.m * 88) l.to l.out

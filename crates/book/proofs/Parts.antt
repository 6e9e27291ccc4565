-- What FINISH gives, from what its parts give. Assumes nothing.
use mathlib.Core.Path.{◌≡◌}
use mathlib.Core.List.{List}
use Prim.Native.Nat.{ℕ}
use lib.ListN.{get_or, replicate}
use Rattle.splitting.specs.Limits.{split_into}
use Rattle.waterfall.specs.declared.Charged.{Charged}
use Rattle.waterfall.specs.Limits.{charged_layers, charges_of}
use Rattle.book.specs.declared.Book.{Book}
use Rattle.book.specs.declared.Result.{Result}
use Rattle.book.specs.Books.{requirement_in}
use Rattle.book.specs.Results.{limits_in, ranks_in, result_in}

pub result-of-parts : (b : Book) {loss : ℕ} {limits ranks contributions payments : List ℕ} {layers : Charged}
    → loss ≡ requirement_in b
    → limits ≡ limits_in b
    → layers ≡ charged_layers loss limits
    → ranks ≡ ranks_in b
    → contributions ≡ charges_of (get_or layers.charges 3 0) ranks b.members.contribution b.head.set
    → payments ≡ (split_into (get_or layers.charges 5 0) b.members.paid (replicate 32 0)).1
    → ◌≡◌ {A = Result}
    record {
      loss = loss;
      charges = layers.charges;
      uncovered = layers.rest;
      ranks = ranks;
      contributions = contributions;
      payments = payments;
    }
    (result_in b)
unfolding result_in
result-of-parts b loss limits layers ranks contributions payments = simp (contributions, payments, layers, limits, loss, ranks)

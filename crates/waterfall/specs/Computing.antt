-- Written by tools/computing.py. Under the line `unfolding computing` every definition of these specs computes.
use Rattle.waterfall.specs.Seniority.{first_higher as Seniority·first_higher, senior as Seniority·senior, rank_in as Seniority·rank_in}
use Rattle.waterfall.specs.Charging.{charged as Charging·charged, uncovered as Charging·uncovered, held_by as Charging·held_by, rank_charge as Charging·rank_charge, charged_by_rank as Charging·charged_by_rank}
use Rattle.waterfall.specs.Limits.{capped as Limits·capped, ranks_of as Limits·ranks_of, charges_of as Limits·charges_of}
use Rattle.lists.specs.Computing.{computing as lists·computing}
use Rattle.sets.specs.Computing.{computing as sets·computing}
use Rattle.splitting.specs.Computing.{computing as splitting·computing}

unfoldable pub computing : Unit {0}
unfolding Seniority·first_higher Seniority·senior Seniority·rank_in Charging·charged Charging·uncovered Charging·held_by Charging·rank_charge Charging·charged_by_rank Limits·capped Limits·ranks_of Limits·charges_of lists·computing sets·computing splitting·computing
computing = tt

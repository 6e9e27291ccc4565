-- Written by tools/computing.py. Under the line `unfolding computing` every definition of these specs computes.
use Rattle.lists.specs.Lists.{one_if as Lists·one_if, sum as Lists·sum, sum_to as Lists·sum_to, tab as Lists·tab, count as Lists·count, any as Lists·any, all as Lists·all, keep as Lists·keep, put_back as Lists·put_back, among as Lists·among, change_first as Lists·change_first, map_from as Lists·map_from, least as Lists·least, sum_by_key as Lists·sum_by_key, joined as Lists·joined}
use Rattle.lists.specs.Order.{larger_first as Order·larger_first, earlier as Order·earlier}
use Rattle.lists.specs.Tests.{first_of as Tests·first_of}
use Rattle.lists.specs.Adding.{add_at as Adding·add_at, held_to as Adding·held_to}

unfoldable pub computing : Unit {0}
unfolding Lists·one_if Lists·sum Lists·sum_to Lists·tab Lists·count Lists·any Lists·all Lists·keep Lists·put_back Lists·among Lists·change_first Lists·map_from Lists·least Lists·sum_by_key Lists·joined Order·larger_first Order·earlier Tests·first_of Adding·add_at Adding·held_to
computing = tt

use Rattle.census_page.proofs.speed.gcd.Given as goal

abbrev pub decreases-divide : goal.decreases-divide
decreases-divide l = l.b

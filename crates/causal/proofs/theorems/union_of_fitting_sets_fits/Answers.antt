use Rattle.causal.proofs.Fitting.{union_fits}
use Rattle.causal.proofs.theorems.union_of_fitting_sets_fits.Goals as goal

pub returns : goal.returns
returns c = union_fits

use Rattle.injection.proofs.Accounts.{accounted_same, accounted_then, stays_same, stays_then, since_same, since_then}
use Rattle.injection.proofs.laws.accounts_compose.Goals as goal

pub returns : goal.returns
returns c = record { accounted_same = accounted_same; accounted_then = accounted_then; stays_same = stays_same; stays_then = stays_then; since_same = since_same; since_then = since_then }

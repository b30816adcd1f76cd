use Rattle.injection.proofs.Accounts.{accounted_more, stays_more, since_made, accounted_ended, since_ended, stays_ended}
use Rattle.injection.proofs.laws.accounts_grow.Goals as goal

pub returns : goal.returns
returns c = record {
  made = λ os more. (accounted_more os more, stays_more os more);
  made_since = since_made;
  ended = λ os k. (accounted_ended os k, since_ended os k);
  ended_stays = stays_ended;
}

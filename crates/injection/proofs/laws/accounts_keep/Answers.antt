use Rattle.injection.proofs.Accounts.{pointer_kept, word_kept, value_kept, value_word_kept, cell_kept, byte_kept, values_kept, named_kept, image_kept}
use Rattle.injection.proofs.laws.accounts_keep.Goals as goal

pub returns : goal.returns
returns c = record {
  pointers = λ g a b q h f. (pointer_kept g a b q h f, word_kept g a b q h f);
  values = λ g a b v h f. (value_kept g a b v h f, value_word_kept g a b v h f);
  cells = λ g a b x h f. (cell_kept g a b x h f, byte_kept g a b x h f);
  words = values_kept;
  trails = λ g safe a b marks h f. (named_kept g a b marks h f, image_kept g safe a b marks h f);
}

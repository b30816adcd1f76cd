use Rattle.rv_selected.proofs.ShapedText.{text_shaped}
use Rattle.rv_selected.proofs.laws.texts_have_shape.Goals as goal

pub returns : goal.returns
returns c = text_shaped c.reads_back.ensures

pub mod GrammarExamples
pub mod GrammarRefusals
pub mod GrammarWeaker
pub mod SyntaxViews

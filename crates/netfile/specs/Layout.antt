-- What a method sees of a file whose words are all right: what private functions tell each other; no public contract cites it. Assumes nothing.
use Rattle.std.specs.Prelude.{◌≡◌, ℕ, List, length}
use Rattle.calculus.specs.Books.{RuleBook}
use Rattle.netfile.specs.Passes.{Laid}
use Rattle.netfile.specs.declared.head.Head.{Head}

-- the book, the bytes, what the first two words say, and the word at which each cell begins
pub record LayoutView (B : Type 0) : Type 0 where
  pub book : B
  pub bytes : List ℕ
  pub head : Head
  pub starts : List ℕ

-- every word is right, and there is a start for each cell
pub record LaidOut (K : RuleBook) (bs : List ℕ) (h : Head) (starts : List ℕ) : Type 0 where
  pub laid : Laid K bs h starts
  pub long : length starts ≡ h.cells

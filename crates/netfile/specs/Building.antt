-- How a draft is filled from a file: what private functions tell each other; no public contract cites it. Assumes nothing.
use Rattle.std.specs.Prelude.{◌≡◌, ℕ, ◌<◌, Some, slice_index}
use Rattle.calculus.specs.Spots.{Spot}
use Rattle.calculus.specs.Books.{RuleBook}
use Rattle.nets.specs.Drafts.{Plan}
use Rattle.netfile.specs.Words.{cell_word, word}
use Rattle.netfile.specs.Faults.{Names, LinkDue}
use Rattle.netfile.specs.Layout.{LayoutView}

module _ (K : RuleBook) {B : Type 0} (l : LayoutView B) where
  -- the plan has the file's ends and loops, and its first n cells
  pub record Celled (n : ℕ) (p : Plan) : Type 0 where
    pub ends : p.ends ≡ l.head.ends
    pub loops : p.loops ≡ l.head.loops
    pub cells : p.cells ≡ n
    pub kinds : (r : ℕ) → r < n → word l.bytes (slice_index l.starts r) ≡ cell_word (p.kind r)
    pub arities : (r : ℕ) → r < n → K.arity (p.kind r) ≡ Some (p.arity r)

  -- the link of x names what its word in the file names, if x is there
  abbrev pub NamedAt : Plan → Spot → Type 0
  NamedAt p x = (w : ℕ) → LinkDue K l.bytes l.head.ends l.head.cells x w → Names l.bytes l.head.ends l.head.cells w (p.link x)

  -- from one plan with all cells to another one: the links of these spots are named now, and those that were stay so
  pub record Naming (P : Spot → Type 0) (p q : Plan) : Type 0 where
    pub celled : Celled l.head.cells q
    pub named : (x : Spot) → P x → NamedAt q x
    pub kept : (x : Spot) → NamedAt p x → NamedAt q x

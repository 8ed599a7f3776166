-- How a text is read byte by byte: what private functions tell each other; no public contract cites it. Assumes nothing.
use Rattle.std.specs.Prelude.{◌≡◌, ℕ, Bool, true, false, cond, ◌&&◌, List, [], ◌∷◌, ◌++◌, length, Some, None, Option, ◌==◌, nat_lt}
use Rattle.terms.specs.Letters.{letter, small, capital, Outside}
use Rattle.terms.specs.Named.{Named, bound, item, lam, app, Grammatical}
use Rattle.terms.specs.declared.scanner.Scanner.{Scanner}
use Rattle.terms.specs.declared.scanner.Mode.{Mode}
use Rattle.terms.specs.declared.scanner.Kind.{Kind}

-- what stands open around a place: an application whose function is being read, one whose function was read, an abstraction
pub data Frame : Type 0 where
  function : Frame
  argument : Named → Frame
  body : List ℕ → Frame

-- how far the reading has come: a term is due; in the name of an abstraction; in a bound name; in an item; a term was read; the text is wrong
pub data State : Type 0 where
  want : List Frame → State
  binder : List ℕ → List Frame → State
  name : List ℕ → List Frame → State
  thing : List ℕ → List Frame → State
  done : Named → List Frame → State
  stuck : State

-- after a term comes a space
abbrev pub spaced : Named → List Frame → State
spaced t [] = stuck
spaced t (function ∷ ks) = want (argument t ∷ ks)
spaced t (argument f ∷ ks) = stuck
spaced t (body w ∷ ks) = spaced (lam w t) ks

-- after a term comes a closing bracket
abbrev pub closed : Named → List Frame → State
closed t [] = stuck
closed t (function ∷ ks) = stuck
closed t (argument f ∷ ks) = done (app f t) ks
closed t (body w ∷ ks) = closed (lam w t) ks

-- after a term the text ends
abbrev pub ended : Named → List Frame → Option Named
ended t [] = Some t
ended t (function ∷ ks) = None
ended t (argument f ∷ ks) = None
ended t (body w ∷ ks) = ended (lam w t) ks

-- the byte after a term
abbrev pub followed : Named → List Frame → ℕ → State
followed t ks b = cond (b == 32) (spaced t ks) (cond (b == 41) (closed t ks) stuck)

-- one byte more
abbrev pub step : State → ℕ → State
step (want ks) b =
    cond (b == 92) (binder [] ks)
    (cond (b == 40) (want (function ∷ ks)) (cond (letter small b) (name (b ∷ []) ks) (cond (letter capital b) (thing (b ∷ []) ks) stuck)))
step (binder w ks) b =
    cond (letter small b) (cond (nat_lt (length w) 8) (binder (w ++ b ∷ []) ks) stuck) (cond (b == 46 && nat_lt 0 (length w)) (want (body w ∷ ks)) stuck)
step (name w ks) b = cond (letter small b) (cond (nat_lt (length w) 8) (name (w ++ b ∷ []) ks) stuck) (followed (bound w) ks b)
step (thing w ks) b = cond (letter capital b) (cond (nat_lt (length w) 8) (thing (w ++ b ∷ []) ks) stuck) (followed (item w) ks b)
step (done t ks) b = followed t ks b
step stuck b = stuck

-- some bytes more
abbrev pub run : State → List ℕ → State
run s [] = s
run s (b ∷ bs) = run (step s b) bs

-- the term that was read, if the text ends here
abbrev pub whole : State → Option Named
whole (want ks) = None
whole (binder w ks) = None
whole (name w ks) = ended (bound w) ks
whole (thing w ks) = ended (item w) ks
whole (done t ks) = ended t ks
whole stuck = None

-- whether the function of each open application was read, the outermost first
abbrev pub flags : List Frame → List Bool
flags [] = []
flags (function ∷ ks) = flags ks ++ false ∷ []
flags (argument f ∷ ks) = flags ks ++ true ∷ []
flags (body w ∷ ks) = flags ks

-- the first of the letters that a word is spelt with
abbrev pub first_letter : Kind → ℕ
first_letter Kind.Binder = small
first_letter Kind.Name = small
first_letter Kind.Item = capital

-- the letters w of a word are read
abbrev pub spelling : Kind → List ℕ → List Frame → State
spelling Kind.Binder w ks = binder w ks
spelling Kind.Name w ks = name w ks
spelling Kind.Item w ks = thing w ks

-- what a scanner tells of a state
abbrev pub Moded : Mode → State → Type 0
Moded m (want ks) = m ≡ Mode.Term
Moded m (binder w ks) = m ≡ Mode.Spelling Kind.Binder (length w)
Moded m (name w ks) = m ≡ Mode.Spelling Kind.Name (length w)
Moded m (thing w ks) = m ≡ Mode.Spelling Kind.Item (length w)
Moded m (done t ks) = m ≡ Mode.Done
Moded m stuck = ⊥

abbrev pub opened : State → List Frame
opened (want ks) = ks
opened (binder w ks) = ks
opened (name w ks) = ks
opened (thing w ks) = ks
opened (done t ks) = ks
opened stuck = []

abbrev pub Shows : Mode → Scanner → State → Type 0
Shows m c s = Moded m s × (c.arguments.items ≡ flags (opened s))

-- the mode that a step to the state s answers, and what the step leaves
abbrev pub Came : Option Mode → Scanner → State → Type 0
Came (Some m) c s = Shows m c s
Came None c s = s ≡ stuck

-- whether the text may end in the state s
abbrev pub Ending : Bool → State → Type 0
Ending true s = (t : Named) × (whole s ≡ Some t)
Ending false s = whole s ≡ None

-- whether the bytes are the text of a term, and where they leave the grammar if not
abbrev pub Scanned : List ℕ → Option ℕ → Type 0
Scanned text None = Grammatical text
Scanned text (Some p) = Outside Grammatical text p

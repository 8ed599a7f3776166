-- Alike is an equivalence. Assumes nothing.
use Rattle.std.proofs.Common.{◌≡◌, ℕ, ◌≢◌, Option, sym, refl, ap, ◌∙◌}
use Rattle.calculus.specs.Spots.{Spot, end, port, carry}
use Rattle.calculus.specs.Books.{RuleBook}
use Rattle.calculus.specs.Nets.{Net, Good}
use Rattle.calculus.specs.Alike.{SameKinds, SameLinks, AlikeBy, Alike}
use Rattle.calculus.proofs.Splice.{Mutual}
use Rattle.calculus.proofs.Iso.{same_sym, image_live}

pub carry_id : (x : Spot) → carry (λ i. i) x ≡ x
carry_id (end e) = refl
carry_id (port p i) = refl

carry_carry : (f g : ℕ → ℕ) (x : Spot) → carry (λ i. g (f i)) x ≡ carry g (carry f x)
carry_carry f g (end e) = refl
carry_carry f g (port p i) = refl

pub links_id : (m : Spot → Spot) → SameLinks (carry (λ i. i)) (carry (λ i. i)) m m
links_id m = record {
  there = λ x l. (ap m (carry_id x) ∙ sym (carry_id (m x)), carry_id (carry (λ i. i) x) ∙ carry_id x);
  back = λ x l. (ap m (carry_id x) ∙ sym (carry_id (m x)), carry_id (carry (λ i. i) x) ∙ carry_id x);
}

pub kinds_id : (k : ℕ → Option ℕ) → SameKinds (λ i. i) (λ i. i) k k
kinds_id k = record { there = λ r c e. (e, refl); back = λ r c e. (e, refl) }

pub kinds_back : {f g : ℕ → ℕ} {k l : ℕ → Option ℕ} → SameKinds f g k l → SameKinds g f l k
kinds_back s = record { there = s.back; back = s.there }

kinds_on : {f g f' g' : ℕ → ℕ} {a b c : ℕ → Option ℕ} → SameKinds f g a b → SameKinds f' g' b c → SameKinds (λ i. f' (f i)) (λ i. g (g' i)) a c
kinds_on {f} {g} {f'} {g'} s t = record {
  there = λ r k e. ((t.there (f r) k (s.there r k e).0).0, ap g (t.there (f r) k (s.there r k e).0).1 ∙ (s.there r k e).1);
  back = λ r k e. ((s.back (g' r) k (t.back r k e).0).0, ap f' (s.back (g' r) k (t.back r k e).0).1 ∙ (t.back r k e).1);
}

links_there : (f g f' g' : ℕ → ℕ) (a b c : Spot → Spot) → Mutual a → SameLinks (carry f) (carry g) a b → SameLinks (carry f') (carry g') b c →
    (x : Spot) → a x ≢ x → (c (carry (λ i. f' (f i)) x) ≡ carry (λ i. f' (f i)) (a x)) × (carry (λ i. g (g' i)) (carry (λ i. f' (f i)) x) ≡ x)
links_there f g f' g' a b c ia s t x l =
    let u = s.there x l in
    let v = t.there (carry f x) (image_live (carry f) (carry g) a b ia s x l) in (
      ap c (carry_carry f f' x) ∙ v.0 ∙ ap (carry f') u.0 ∙ sym (carry_carry f f' (a x)),
      carry_carry g' g (carry (λ i. f' (f i)) x) ∙ ap (λ y. carry g (carry g' y)) (carry_carry f f' x) ∙ ap (carry g) v.1 ∙ u.1,
    )

pub by_id : (A : Net) → AlikeBy (λ i. i) (λ i. i) A A
by_id A = record { ends = refl; loops = refl; kinds = kinds_id A.kind; links = links_id A.mate }

pub by_back : {f g : ℕ → ℕ} {A B : Net} → AlikeBy f g A B → AlikeBy g f B A
by_back s = record { ends = sym s.ends; loops = sym s.loops; kinds = kinds_back s.kinds; links = same_sym s.links }

pub alike_refl : (A : Net) → Alike A A
alike_refl A = ((λ i. i), (λ i. i), by_id A)

pub alike_sym : (A B : Net) → Alike A B → Alike B A
alike_sym A B (f, g, s) = (g, f, by_back s)

pub alike_trans : (K : RuleBook) (A B C : Net) → Good K A → Good K C → Alike A B → Alike B C → Alike A C
alike_trans K A B C G H (f, g, s) (f', g', t) = (
  (λ i. f' (f i)),
  (λ i. g (g' i)),
  record {
    ends = s.ends ∙ t.ends;
    loops = s.loops ∙ t.loops;
    kinds = kinds_on s.kinds t.kinds;
    links = record {
      there = links_there f g f' g' A.mate B.mate C.mate G.twice s.links t.links;
      back = links_there g' f' g f C.mate B.mate A.mate H.twice (same_sym t.links) (same_sym s.links);
    };
  },
)

-- What an account tells of its run, call by call. Assumes nothing.
use Rattle.std.proofs.Common.{◌≡◌, ℕ, ◌+◌, Bool, true, false, cond, List, ◌∷◌, Ok, Err, sym, refl, ap, ◌∙◌, subst, ap₂, inl, inr, arith}
use Rattle.std.specs.List.{ContainsAt as Has}
use Rattle.calculus.specs.Books.{RuleBook, Laws}
use Rattle.calculus.specs.Nets.{Active}
use Rattle.calculus.specs.Nets.{Pair as CPair}
use Rattle.strategies.specs.Behaviour.{Behaviour}
use Rattle.ledger.specs.Places.{Places, places, without}
use Rattle.ledger.proofs.Members.{has_in, in_has}
use Rattle.ledger.proofs.Times.{one_same, out_cons, in_times, same_are}
use Rattle.engine.specs.declared.net.Net.{Net}
use Rattle.engine.specs.declared.sealed.Sealed.{Sealed}
use Rattle.engine.specs.declared.run.Run.{Run}
use Rattle.engine.specs.declared.slip.Slip.{Slip}
use Rattle.nets.specs.ByBook.{seat}
use Rattle.engine.specs.States.{held, now_on, Proper, slip_places}
use Rattle.engine.specs.Running.{Running}
use Rattle.engine.specs.Calls.{Opens, Drew, OutHere, Accepted, PutsBack, Turns, Stops, Drives}
use Rattle.engine.specs.Calls.Turns.{none, turn}
use Rattle.engine.specs.Calls.Stops.{done, empty, refused}
use Rattle.engine.specs.Accounts.{Event, draw, rewrite, put_back, drive, close, leave, Account, pairs_out, made, Calls, Tells}
use Rattle.engine.specs.Accounts.Tells.{opened, called}
use Rattle.engine.specs.Agreement.{Interaction, Chain, Moves, Way}
use Rattle.engine.specs.Agreement.Chain.{none as unmoved, next as moved_by}
use Rattle.engine.specs.Agreement.Way.{opened as at_first, moved as moved_on}

module _ {B S : Type 0} (mean : B → RuleBook) (laws : (b : B) → Laws (mean b)) (acts : Behaviour S) where
  -- from y to z, with the same pairs out: n interactions
  pub record Went (out : List Places) (n : ℕ) (y z : Run B S) : Type 0 where
    pub book : z.net.book ≡ y.net.book
    pub stamp : z.stamp ≡ y.stamp
    pub running : Running mean acts z out
    pub count : z.count ≡ y.count + n
    pub chain : Chain (mean y.net.book) out n (now_on y) (now_on z)

  off_again : (x : Places) (out : List Places) → without x (x ∷ out) ≡ out
  off_again x out = ap (λ (b : Bool). cond b out (x ∷ without x out)) (same_are x x refl)

  -- the pair on top is out once
  top_once : (x : Run B S) (P : CPair) (out : List Places) → Running mean acts x (places P ∷ out) → Active (mean x.net.book) (now_on x) P → Has out (places P) → ⊥
  top_once x P out R a h =
      let t = R.balanced.once P a in
      let e = out_cons (places P) (places P) out in
      let f = one_same (places P) (places P) refl in
      let i = in_times (places P) out (has_in out (places P) h) in
      omega arith

  -- an accepted rewrite is one interaction
  pub interacts : (x : Run B S) (s : Slip) (z : Run B S) (out : List Places) → (A : Accepted mean acts x s z) → Running mean acts x out → Interaction (mean x.net.book) (now_on x) A.pair (now_on z)
  interacts x s z out A R =
      let w = A.rewrites out R in
      record { place = seat w.seats; seats = w.rewrote.seats; rewriting = w.rewrote.rewriting }

  slip_pair : (x : Run B S) (s : Slip) (P : CPair) → OutHere mean acts x s P → places P ≡ slip_places s
  slip_pair x s P o = ap₂ (λ (u v : ℕ). (u, v)) o.at.0 o.at.1

  one_turn : (out : List Places) (n : ℕ) (w x y z : Run B S) (s : Slip) → Went out n w x → Drew mean acts x s y → Accepted mean acts y s z → Went out (n + 1) w z
  one_turn out n w x y z s W D A =
      let R = D.running out W.running in
      let eb : y.net.book ≡ w.net.book = ap (λ (m : Net B). m.book) D.net ∙ W.book in
      let P = A.pair in
      let sp = slip_pair y s P A.out_here in
      let C = W.chain in
      let I = subst (λ (b : B). Interaction (mean b) (now_on y) P (now_on z)) eb (interacts y s z (slip_places s ∷ out) A R) in
      let J = subst (λ (m : Net B). Interaction (mean w.net.book) (held m) P (now_on z)) D.net I in
      record {
        book = A.book ∙ eb;
        stamp = A.stamp ∙ D.stamp ∙ W.stamp;
        running = subst (Running mean acts z) (off_again (slip_places s) out) (A.running (slip_places s ∷ out) R);
        count = (let a = A.count in let b = D.count in let c = W.count in omega arith);
        chain = moved_by P C (λ h. top_once y P out (subst (λ (q : Places). Running mean acts y (q ∷ out)) (sym sp) R) A.out_here.ready.active h) J;
      }

  pub turns_went : (out : List Places) {n : ℕ} {w z : Run B S} → Turns mean acts n w z → Running mean acts w out → Went out n w z
  turns_went out {n} {w} none R = record { book = refl; stamp = refl; running = R; count = omega arith; chain = unmoved }
  turns_went out (turn {n} {w} {x} {y} {z} s t d r) R = one_turn out n w x y z s (turns_went out t R) d r

  -- a pair that was drawn is out here
  drawn_here : (out : List Places) (x y : Run B S) (s : Slip) → Drew mean acts x s y → Running mean acts y (slip_places s ∷ out) → (P : CPair) × OutHere mean acts y s P
  drawn_here out x y s D R =
      let t = R.balanced.is_out_lem (slip_places s) (in_has (slip_places s ∷ out) (slip_places s) (inl refl)) in
      let P = t.0 in
      let e = ap (λ (q : Places). q.0) t.2 in
      let f = ap (λ (q : Places). q.1) t.2 in (
        P,
        record {
          stamp = ap (λ (q : Slip). q.stamp) D.slip ∙ sym D.stamp;
          left = R.marks.out_marked s.left (slip_places s, in_has (slip_places s ∷ out) (slip_places s) (inl refl), inl refl);
          right = R.marks.out_marked s.right (slip_places s, in_has (slip_places s ∷ out) (slip_places s) (inl refl), inr refl);
          at = (sym e, sym f);
          ready = record {
            active = t.1;
            left = R.proper P.left P.rule.left t.1.left;
            right = R.proper P.right P.rule.right t.1.right;
          };
        },
      )

  -- a pair that comes back leaves everything as it was
  put_back_went : (out : List Places) (n : ℕ) (u w x y z : Run B S) (s t : Slip) (b : Bool) → Went out n u w → Drew mean acts w s x → t ≡ s → y ≡ x → PutsBack mean acts y t b z → Went out n u z
  put_back_went out n u w x y z s t true W D et ey p =
      let R = D.running out W.running in
      let Ry : Running mean acts y (slip_places s ∷ out) = subst (λ (v : Run B S). Running mean acts v (slip_places s ∷ out)) (sym ey) R in
      let en : z.net ≡ w.net = p.net ∙ ap (λ (v : Run B S). v.net) ey ∙ D.net in
      record {
        book = ap (λ (m : Net B). m.book) en ∙ W.book;
        stamp = p.stamp ∙ ap (λ (v : Run B S). v.stamp) ey ∙ D.stamp ∙ W.stamp;
        running = subst (Running mean acts z) (ap (λ (q : Slip). without (slip_places q) (slip_places s ∷ out)) et ∙ off_again (slip_places s) out) (p.running (slip_places s ∷ out) Ry);
        count = (let a = p.count in let b = ap (λ (v : Run B S). v.count) ey in let c = D.count in let d = W.count in omega arith);
        chain = subst (λ (m : Net B). Chain (mean u.net.book) out n (now_on u) (held m)) (sym en) W.chain;
      }
  put_back_went out n u w x y z s t false W D et ey p =
      let R = D.running out W.running in
      let h = drawn_here out w x s D R in
      absurd (p.0 h.0 (subst (λ (v : Run B S). OutHere mean acts v t h.0) (sym ey) (subst (λ (q : Slip). OutHere mean acts x q h.0) (sym et) h.1)))

  stops_went : (out : List Places) {limit n r : ℕ} {u w z : Run B S} → Went out n u w → Stops mean acts limit n r w z → Went out n u z
  stops_went out W (done e) = W
  stops_went out {limit} {n} {r} {u} {w} {z} W (empty l d) = subst (Went out n u) (sym d.2) W
  stops_went out {limit} {n} {r} {u} W (refused {w} {x} {y} {z} s t f b l d o p) = put_back_went out n u w x y z s t b W d o.1 o.2 p

  pub drives_went : (out : List Places) (y z : Run B S) (limit : ℕ) (r : ℕ × ℕ) → Running mean acts y out → Drives mean acts y limit r z → Went out r.0 y z
  drives_went out y z limit r R D = stops_went out (turns_went out D.turns R) D.stops

  -- what holds at a moment of an account
  pub record Sofar (x : Run B S) (es : Account) (y : Run B S) : Type 0 where
    pub book : y.net.book ≡ x.net.book
    pub running : Running mean acts y (pairs_out es)
    pub count : y.count ≡ made es
    pub way : Way (mean x.net.book) (now_on x) es (now_on y)

  -- nothing changed but the account
  quiet : (x : Run B S) (es : Account) (y z : Run B S) (e : Event) → Sofar x es y → z ≡ y → pairs_out (e ∷ es) ≡ pairs_out es → made (e ∷ es) ≡ made es → Moves (mean x.net.book) es e (now_on y) (now_on y) → Sofar x (e ∷ es) z
  quiet x es y z e F h o m v = subst (Sofar x (e ∷ es)) (sym h) (record { book = F.book; running = subst (Running mean acts y) (sym o) F.running; count = F.count ∙ sym m; way = moved_on e F.way v })

  step : (x : Run B S) (es : Account) (y z : Run B S) (e : Event) → Sofar x es y → Calls mean acts y e z → Sofar x (e ∷ es) z
  step x es y z (draw (Ok s)) F D = record {
    book = ap (λ (m : Net B). m.book) D.net ∙ F.book;
    running = D.running (pairs_out es) F.running;
    count = D.count ∙ F.count;
    way = moved_on (draw (Ok s)) F.way (ap held D.net);
  }
  step x es y z (draw (Err f)) F D = quiet x es y z (draw (Err f)) F D.2 refl refl refl
  step x es y z (rewrite s (Ok tt)) F A = record {
    book = A.book ∙ F.book;
    running = A.running (pairs_out es) F.running;
    count = (let a = A.count in let b = F.count in omega arith);
    way = moved_on (rewrite s (Ok tt)) F.way
        (A.pair, slip_pair y s A.pair A.out_here, subst (λ (b : B). Interaction (mean b) (now_on y) A.pair (now_on z)) F.book (interacts y s z (pairs_out es) A F.running));
  }
  step x es y z (rewrite s (Err e)) F A = quiet x es y z (rewrite s (Err e)) F A.2 refl refl refl
  step x es y z (put_back s true) F P = record {
    book = ap (λ (m : Net B). m.book) P.net ∙ F.book;
    running = P.running (pairs_out es) F.running;
    count = P.count ∙ F.count;
    way = moved_on (put_back s true) F.way (ap held P.net);
  }
  step x es y z (put_back s false) F P = quiet x es y z (put_back s false) F P.1 refl refl refl
  step x es y z (drive limit r) F D =
      let W = drives_went (pairs_out es) y z limit r F.running D in
      record {
        book = W.book ∙ F.book;
        running = W.running;
        count = (let a = W.count in let b = F.count in omega arith);
        way = moved_on (drive limit r) F.way (subst (λ (b : B). Chain (mean b) (pairs_out es) r.0 (now_on y) (now_on z)) F.book W.chain);
      }
  step x es y z (close f) F C = quiet x es y z (close f) F C.2 refl refl refl
  step x es y z (leave f) F C = quiet x es y z (leave f) F C.2 refl refl refl

  pub sofar : (n : Sealed B) (s : S) (g : ℕ) (x : Run B S) → Proper mean n.net → Opens mean acts n s g x → {es : Account} {y : Run B S} → Tells mean acts x es y → Sofar x es y
  sofar n s g x h O opened = record { book = refl; running = O.running h; count = O.count; way = at_first }
  sofar n s g x h O (called {es} {y} {z} e t c) = step x es y z e (sofar n s g x h O t) c

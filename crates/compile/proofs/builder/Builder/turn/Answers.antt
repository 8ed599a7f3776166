use Rattle.std.proofs.Common.{◌≤◌, arith}
use Rattle.std.proofs.lemmas.Bool.{le-leb, and_from}
use Rattle.terms.proofs.Fronts.{told, no_letter, as_abstraction, as_application, as_an_argument, as_closing, as_name, as_item}
use Rattle.compile.proofs.Steps.{stands_there}
use Rattle.compile.proofs.builder.Builder.turn.Goals as goal

pub enter_body-requires : goal.enter_body-requires
enter_body-requires c =
    let b = c.args.self.now in
    told b.text.now b.at c.args.byte c.requires.there (stands_there b) c.requires.comes (λ z. as_abstraction _ z c.in-92.is)

pub enter_function-requires : goal.enter_function-requires
enter_function-requires c =
    let b = c.args.self.now in
    told b.text.now b.at c.args.byte c.requires.there (stands_there b) c.requires.comes (λ z. as_application _ z c.in-40.is)

pub enter_argument-requires : goal.enter_argument-requires
enter_argument-requires c =
    let b = c.args.self.now in
    told b.text.now b.at c.args.byte c.requires.there (stands_there b) c.requires.comes (λ z. as_an_argument _ z c.in-32.is)

pub leave-requires : goal.leave-requires
leave-requires c =
    let b = c.args.self.now in
    told b.text.now b.at c.args.byte c.requires.there (stands_there b) c.requires.comes (λ z. as_closing _ z c.in-41.is)

pub pass_name-requires : goal.pass_name-requires
pass_name-requires c =
    let b = c.args.self.now in
    let low : 97 ≤ c.args.byte = omega arith in
    let high : c.args.byte ≤ 122 = omega arith in
    told b.text.now b.at c.args.byte c.requires.there (stands_there b) c.requires.comes (λ z. as_name _ z (and_from _ _ (le-leb 97 _ low) (le-leb _ 122 high)))

pub pass_item-requires : goal.pass_item-requires
pass_item-requires c =
    let b = c.args.self.now in
    let none = no_letter c.args.byte (λ low high. omega arith) in
    told b.text.now b.at c.args.byte c.requires.there (stands_there b) c.requires.comes (λ z. as_item _ z (λ e. omega arith) (λ e. omega arith) (λ e. omega arith) (λ e. omega arith) none)

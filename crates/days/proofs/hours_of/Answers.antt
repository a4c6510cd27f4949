-- `days::hours_of` meets its contract. Assumes nothing.
use Rattle.std.proofs.Common.{◌≡◌, ℕ, ◌/◌, List, length, get_or, arith, rules, tests, ap, ◌∙◌}
use lib.Dec.{eqb}
use Rattle.std.proofs.lemmas.Iterator.{YieldsList-from_slice}
use Rattle.std.proofs.lemmas.Iterator.Search.{find_from_yields_List}
use Rattle.std.specs.List.{find}
use Rattle.std.specs.Option.{option_copied, option_map_or}
use Rattle.days.proofs.Pairs.{fit}
use Rattle.days.proofs.Turns.{named}
use Rattle.days.proofs.hours_of.Goals as goal

pub returns : goal.returns
returns c =
    let cs = c.args.changes.now in
    let ps : List (List ℕ) = c.as_chunks.result.0.now in
    let found : option_copied c.find.result ≡ find (λ (p : List ℕ). eqb (get_or p 0 0) c.args.d) ps =
    find_from_yields_List (λ (p : List ℕ). eqb (get_or p 0 0) c.args.d) _ _ _ c.find.ensures.ran (YieldsList-from_slice ps cc) (λ x b q k. search (rules, tests)) in
    let says : c.map_or.result ≡ option_map_or (λ (p : List ℕ). get_or p 1 0) (option_copied c.find.result) 24 = search rules in
    says
    ∙ ap (λ r. option_map_or (λ (p : List ℕ). get_or p 1 0) r 24) (found ∙ ap (find (λ (p : List ℕ). eqb (get_or p 0 0) c.args.d)) c.as_chunks.ensures.front)
    ∙ named c.args.d (length cs / 2) cs (omega (arith, (fit cs c.requires).even))

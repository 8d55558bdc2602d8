-- What is told of the events of an element is what they do.
use Rattle.std.proofs.Common.{◌≡◌, ◌++◌, ap, subst, ◌∙◌}
use Rattle.std.proofs.lemmas.Result.{on_ok_weaker}
use Rattle.std.specs.HashMap.{get}
use Rattle.std.specs.List.{filter_map}
use Rattle.std.specs.Option.{option_or}
use Rattle.id_tag.specs.Tags.{same_context, same_structure}
use Rattle.id_record.specs.Tellings.{tellings}
use Rattle.id_observe.specs.Paths.{enter_in, maker_in, makings_of}
use Rattle.id_observe.specs.Tellings.{enter_by, maker_by, making_told, value_told}
use Rattle.id_observe.proofs.TellingsLemmas.{answers-told, enters-told, makers-told, makings-of_told}
use Rattle.id_observe.proofs.paths.add_record.Goals as goal

pub returns : goal.returns
returns c =
    let g = c.args.graph.now in
    let old = c.args.tables.now in
    let e = c.args.element.now in
    let kept = c.handled-handled.ensures.kept in
    on_ok_weaker c.add_tellings.result (λ told. record {
      enters = λ d.
          told.enters d
          ∙ ap (λ ts. option_or (enter_by g ts d) (get same_context old.enters d)) c.tellings.ensures
          ∙ ap (λ o. option_or o (get same_context old.enters d))
          (subst (λ h. enter_by h (tellings e.state.events) d ≡ enter_in h e.state.events d) c.requires
          (enters-told e d kept));
      makers = λ s.
          told.makers s
          ∙ ap (λ ts. option_or (maker_by g ts s) (get same_structure old.makers s)) c.tellings.ensures
          ∙ ap (λ o. option_or o (get same_structure old.makers s))
          (subst (λ h. maker_by h (tellings e.state.events) s ≡ maker_in h e.state.events s) c.requires
          (makers-told e s kept));
      makings =
          told.makings
          ∙ ap (λ ts. old.makings.items ++ filter_map (making_told g) ts) c.tellings.ensures
          ∙ ap (λ ms. old.makings.items ++ ms)
          (subst (λ h. filter_map (making_told h) (tellings e.state.events) ≡ makings_of h e.state.events) c.requires
          (makings-of_told e kept));
      values =
          told.values
          ∙ ap (λ ts. old.values.items ++ filter_map value_told ts) c.tellings.ensures
          ∙ ap (λ vs. old.values.items ++ vs) (answers-told e.state.events);
    }) c.add_tellings.ensures

use Rattle.std.proofs.Common.{List, [], ◌∷◌, ◌++◌, codes, refl, inl, inr}
use Rattle.plain_model.specs.Fields.{block_after, block_in, data_text, delimited, extent_in}
use Rattle.plain_model.specs.Parts.{line_at, number_of}
use Rattle.production_laws.specs.Productions.Change.{Alone, Inline}
use Rattle.production_laws.specs.Texts.{Part}
use Rattle.production_laws.specs.Texts.Part.{Comment, Line, WithData, DoneLine}
use Rattle.production_laws.proofs.examples.a_text_is_spelled.Goals as goal

parts : List Part
parts = Line (codes "feature done") ∷ Line (codes "blob") ∷ Comment (codes "# no mark") ∷ Line (codes "original-oid x") ∷ WithData (codes "data 3") (codes "# x") ∷ Line (codes "commit b") ∷ Line (codes "mark :1") ∷ Line (codes "committer Ann") ∷ WithData (codes "data <<E") (codes "hi" ++ 10 ∷ []) ∷ Line (codes "from :9") ∷ Line (codes "merge :8") ∷ Line (codes "merge :7") ∷ Line (codes "M 644 inline f") ∷ WithData (codes "data 0") [] ∷ Line (codes "D g") ∷ Line [] ∷ Line (codes "reset b") ∷ Line (codes "alias") ∷ Line (codes "mark :2") ∷ Line (codes "to b") ∷ Line (codes "tag v") ∷ Line (codes "mark :3") ∷ Line (codes "from b") ∷ WithData (codes "data 0") [] ∷ Line (codes "progress x") ∷ DoneLine (codes "done") ∷ []

pub returns-clause-each : goal.returns-clause-each
unfolding parts line_at number_of extent_in data_text delimited block_after block_in
returns-clause-each c = (parts, (_, refl, refl, refl, (_, refl, refl, refl, (_, refl, refl, (_, refl, refl, refl, (_, _, refl, refl, refl, refl, (_, refl, refl, refl, (_, refl, refl, refl, (_, refl, refl, refl, (_, _, refl, refl, refl, refl, (_, refl, refl, refl, (_, refl, refl, refl, (_, refl, refl, refl, (_, refl, refl, refl, (_, _, refl, refl, refl, refl, (_, refl, refl, refl, (_, refl, refl, refl, (_, refl, refl, refl, (_, refl, refl, refl, (_, refl, refl, refl, (_, refl, refl, refl, (_, refl, refl, refl, (_, refl, refl, refl, (_, refl, refl, refl, (_, _, refl, refl, refl, refl, (_, refl, refl, refl, (_, refl, refl, refl, refl)))))))))))))))))))))))))), (_, (_, (_, refl, refl), (_, (_, refl, (inl (inr (_, refl, (_, refl, refl))))), (_, (_, refl, (inr (_, refl, (inl (inl (_, refl, (inl (_, refl, (inr (_, refl, (2, _, refl, (Inline ∷ Alone ∷ [], _, refl, refl)))))))))))), (_, (_, refl, refl), (_, (_, refl, (inl refl)), (_, (_, refl, (_, refl, (_, refl, refl))), (_, (_, refl, (inr (_, refl, (_, refl, (inl (inl (_, refl, refl))))))), (_, (_, refl, refl), refl)))))))), inl refl))

pub returns-clause-last_line : goal.returns-clause-last_line
unfolding line_at
returns-clause-last_line c = (Line (codes "checkpoint") ∷ [], (_, refl, refl, refl, refl), (_, (_, (_, refl, refl), refl), inr (refl, refl)))

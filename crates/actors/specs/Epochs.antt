-- Runs in threads that follow one another, and the service that gives their codes.

-- what epochs are, and which casts they leave
pub use Rattle.act_epochs.specs.Epochs.{Epoch, IsEpoch, cast_of_end, casts_left, AreEpochs, casts_after}
-- what each actor ran over all epochs, and what was submitted to it
pub use Rattle.act_epochs.specs.OverEpochs.{runs, ran, submitted}
-- what holds over all epochs
pub use Rattle.act_epochs.specs.OverEpochs.{EpochsAreConsistent, AreConsistent, IsConsistentAmong, IsInState, IsOver}
pub use Rattle.act_epochs.specs.OverEpochs.{IsAnswerOfAllRuns, EpochsGoOn, GoesOn, KeptOverEpochs, CastKeeps}
-- what a service knows of them, and when each error comes
pub use Rattle.act_service.specs.Services.{Known, Given, HaveLed, IsNext, CarriesOver, BecomesKnown, IsUnderWay}
pub use Rattle.act_service.specs.Faults.{IsEpochFault, HasMisgiven}

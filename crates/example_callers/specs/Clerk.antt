-- What a clerk tells.
use Rattle.actors.specs.Codes.{SessionView}
use Rattle.example_callers.specs.declared.clerk.Clerk.{Clerk}
use Rattle.example_callers.specs.declared.clerk.Clerk.TheVariants.{Transfer, Worker, Retry}
use Rattle.example_callers.specs.Retry.{retry_tells}
use Rattle.example_callers.specs.Transfer.{transfer_tells}
use Rattle.example_callers.specs.Worker.{worker_tells}

-- what the code tells that it is
abbrev pub clerk_tells : Clerk → SessionView → SessionView → Type 0
clerk_tells (Transfer transfer) = transfer_tells transfer
clerk_tells (Worker worker) = worker_tells worker
clerk_tells (Retry retry) = retry_tells retry
